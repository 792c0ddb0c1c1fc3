-- The widths of a new font's glyphs, in its units (OpenType, "head", "hhea" and "hmtx").
use Rattle.std.specs.Prelude.{ℕ, zero, suc, ◌+◌, List, [], ◌∷◌, Option, Result, Ok}
use Rattle.std.specs.Option.{ok_or}
use Rattle.subsetter_base.specs.Bytes.{◌>>=◌}
use Rattle.subsetter_base.specs.declared.error.Error.{Error}
use Rattle.subsetter_base.specs.declared.error.Error.TheVariants.{MalformedFont}
use Rattle.subsetter_sfnt.specs.Fields.Hmtx.{advance_in}
use Rattle.cid_embed.specs.Afresh.{Measures, measures_of}
use Rattle.pdf_source.specs.declared.exact.ExactWidths.{ExactWidths}

-- unitsPerEm, and the advance of each glyph
pub record Exact : Type 0 where
  pub units_per_em : ℕ
  pub widths : List ℕ

abbrev pub exact_seen : ExactWidths → Exact
exact_seen e = record { units_per_em = e.units_per_em; widths = e.widths.items }

-- the advances of n glyphs, from glyph g on
abbrev pub advances_from : Measures → ℕ → ℕ → Result (List ℕ) Error
advances_from m g zero = Ok []
advances_from m g (suc n) = do
  advance ← ok_or (advance_in m.hmtx m.number_of_h_metrics g) MalformedFont
  others ← advances_from m (g + 1) n
  Ok (advance ∷ others)

unfoldable pub exact_of : (List ℕ → Option (List ℕ)) → ℕ → Result Exact Error
exact_of find count = do
  m ← measures_of find
  widths ← advances_from m 0 count
  Ok (record { units_per_em = m.units; widths = widths })
