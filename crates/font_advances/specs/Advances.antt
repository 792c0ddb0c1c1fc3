-- Advances of a font's glyphs at settings of its user coordinates, in its units, and why there are none.
use Rattle.std.specs.Prelude.{ℕ, ◌==◌, if◌then◌else◌, List, codes, Option, Result, Ok, Err, ℤ}
use Rattle.std.specs.Option.{ok_or}
use Rattle.subsetter_base.specs.Bytes.{◌>>=◌}
use Rattle.subsetter_base.specs.declared.tag.Tag.{Tag}
use Rattle.subsetter_base.specs.declared.error.Error.{Error}
use Rattle.subsetter_base.specs.declared.error.Error.TheVariants.{MalformedFont}
use Rattle.subsetter_sfnt.specs.Fields.Head.{units_per_em}
use Rattle.subsetter_sfnt.specs.Plain.{opened}
use Rattle.subsetter_sfnt.specs.Read.{Font, table_in}
use Rattle.cid_embed.specs.Afresh.{if_units}
use Rattle.font_advances.specs.Heights.{heights_in}
use Rattle.font_advances.specs.Widths.{outlines_in, widths_of}
use Rattle.font_advances.specs.declared.call.GlyphAdvances.{GlyphAdvances as GivenAdvances}
use Rattle.font_advances.specs.declared.widths.Outlines.{Outlines}

-- unitsPerEm, and of each glyph the width and the height
pub record Advances : Type 0 where
  pub units_per_em : ℕ
  pub widths : List ℕ
  pub heights : List ℕ

abbrev pub advances_seen : GivenAdvances → Advances
advances_seen a = record { units_per_em = a.units_per_em; widths = a.widths.items; heights = a.heights.items }

-- unitsPerEm of head, which isn't 0
unfoldable pub units_in : (List ℕ → Option (List ℕ)) → Result ℕ Error
units_in find = do
  head ← ok_or (find (codes "head")) MalformedFont
  units ← ok_or (units_per_em head) MalformedFont
  if_units units

-- of the tables that a look-up finds, with outlines of this kind
unfoldable pub advances_by : Outlines → (List ℕ → Option (List ℕ)) → List (Tag × ℤ) → ℕ → List ℕ → Result Advances Error
advances_by outlines find settings steps glyphs = do
  units ← units_in find
  widths ← widths_of outlines find settings steps glyphs
  Ok (record { units_per_em = units; widths = widths; heights = heights_in find settings units glyphs })

-- the directory of a font, and its outlines
unfoldable pub opening : Font → Result (List ℕ × Outlines) Error
opening font = do
  records ← opened font
  outlines ← outlines_in (table_in font.bytes records)
  Ok (records, outlines)

-- where a glyph of glyf may take `steps` steps
unfoldable pub advances_of : Font → List (Tag × ℤ) → ℕ → List ℕ → Result Advances Error
advances_of font settings steps glyphs =
    opening font >>= λ o. advances_by o.1 (table_in font.bytes o.0) settings steps glyphs
