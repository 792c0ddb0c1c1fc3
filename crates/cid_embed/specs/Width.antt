-- Widths of glyphs as a PDF has them: advances in thousandths of the em (OpenType, "head", "hhea" and "hmtx").
use Rattle.std.specs.Prelude.{◌≡◌, ℕ, ◌+◌, ◌*◌, ◌/◌, codes, Option, Some, None}
use Rattle.subsetter_base.specs.declared.error.Error.{Error}
use Rattle.subsetter_base.specs.declared.error.Error.TheVariants.{MalformedFont}
use Rattle.subsetter_base.specs.Options.{◌>>=◌}
use Rattle.subsetter_sfnt.specs.Read.{Font, table}
use Rattle.subsetter_sfnt.specs.Fields.Head.{units_per_em as units_in}
use Rattle.subsetter.specs.Common.Hmtx.Read.{metric}

abbrev pub units_per_em : Font → Option ℕ
units_per_em font = table font (codes "head") >>= units_in

-- the whole number nearest to n / d, the greater one where n / d lies half way between two
abbrev pub rounded : ℕ → ℕ → ℕ
rounded n d = (2 * n + d) / (2 * d)

-- a length in font design units, in thousandths of the em
abbrev pub thousandths : ℕ → ℕ → ℕ
thousandths length units = rounded (length * 1000) units

-- the width of a glyph: its advance in thousandths of the em
abbrev pub width : Font → ℕ → Option ℕ
width font g = do
  m ← metric font g
  units ← units_per_em font
  Some (thousandths m.advance_width units)

-- the faults of a font that leave it without widths, each with its error
pub data HasWidthFault (font : Font) : Error → Type 0 where
  no_hmtx : table font (codes "hmtx") ≡ None → HasWidthFault font MalformedFont
  no_head : table font (codes "head") ≡ None → HasWidthFault font MalformedFont
  no_units : units_per_em font ≡ Some 0 → HasWidthFault font MalformedFont
