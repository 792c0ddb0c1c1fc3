-- Widths as they are read of a file that holds one font (OpenType, "Organization of an OpenType Font", "head", "hhea"
-- and "hmtx").
use Rattle.std.specs.Prelude.{ℕ, zero, suc, ◌+◌, ◌*◌, List, [], ◌∷◌, codes, Option, Result, Ok, Err, ◌==◌}
use Rattle.std.specs.Prelude.{if◌then◌else◌}
use Rattle.std.specs.Option.{ok_or, option_and_then}
use Rattle.subsetter_base.specs.Bytes.{range, number, ◌>>=◌}
use Rattle.subsetter_base.specs.declared.error.Error.{Error}
use Rattle.subsetter_base.specs.declared.error.Error.TheVariants.{MalformedFont}
use Rattle.subsetter_sfnt.specs.Read.{table_in}
use Rattle.subsetter_sfnt.specs.Fields.Hhea.{number_of_h_metrics}
use Rattle.subsetter_sfnt.specs.Fields.Hmtx.{advance_in}
use Rattle.cid_embed.specs.declared.reader.Metrics.{Metrics}
use Rattle.cid_embed.specs.Width.{thousandths}
use Rattle.subsetter_sfnt.specs.Fields.Head.{units_per_em}

-- the bytes of the directory's records: 16 for each of the number at byte 4, from byte 12 on
abbrev pub directory_bytes : List ℕ → Option (List ℕ)
directory_bytes file = option_and_then (λ count. range file 12 (16 * count)) (number file 4 2)

-- the table of a tag, by the directory at the file's start
unfoldable pub table_of : List ℕ → List ℕ → Option (List ℕ)
table_of file tag = option_and_then (λ directory. table_in file directory tag) (directory_bytes file)

-- what advances and widths are found by: the bytes of `hmtx`, how many pairs it has, and unitsPerEm
pub record Measures : Type 0 where
  pub hmtx : List ℕ
  pub number_of_h_metrics : ℕ
  pub units : ℕ

abbrev pub measures_seen : Metrics → Measures
measures_seen m = record { hmtx = m.hmtx.now; number_of_h_metrics = m.number_of_h_metrics; units = m.units }

-- unitsPerEm, which divides
abbrev pub if_units : ℕ → Result ℕ Error
if_units units = if units == 0 then Err MalformedFont else Ok units

unfoldable pub measures_of : (List ℕ → Option (List ℕ)) → Result Measures Error
measures_of find = do
  hmtx ← ok_or (find (codes "hmtx")) MalformedFont
  head ← ok_or (find (codes "head")) MalformedFont
  found ← ok_or (units_per_em head) MalformedFont
  units ← if_units found
  hhea ← ok_or (find (codes "hhea")) MalformedFont
  pairs ← ok_or (number_of_h_metrics hhea) MalformedFont
  Ok (record { hmtx = hmtx; number_of_h_metrics = pairs; units = units })

-- the widths of n glyphs, from glyph g on
abbrev pub widths_from : Measures → ℕ → ℕ → Result (List ℕ) Error
widths_from m g zero = Ok []
widths_from m g (suc n) = do
  advance ← ok_or (advance_in m.hmtx m.number_of_h_metrics g) MalformedFont
  widths ← widths_from m (g + 1) n
  Ok (thousandths advance m.units ∷ widths)

unfoldable pub widths_of : (List ℕ → Option (List ℕ)) → ℕ → Result (List ℕ) Error
widths_of find count = do
  m ← measures_of find
  widths_from m 0 count
