-- What the outlines of a face are.
use Rattle.std.specs.Prelude.{ℕ, List, Option, Some, None, codes}
use Rattle.subsetter_sfnt.specs.Read.{Font, stored}
use Rattle.subset_lines.specs.declared.faces.outlines.Outlines.{Outlines}
use Rattle.subset_lines.specs.declared.faces.outlines.Outlines.TheVariants.{TrueType, Cff, Cff2, Missing}

-- by the tables `CFF ` and `CFF2`
abbrev pub other_by : Option (List ℕ) → Option (List ℕ) → Outlines
other_by (Some cff) cff2 = Cff
other_by None (Some cff2) = Cff2
other_by None None = Missing

abbrev pub other_outlines : Font → Outlines
other_outlines font = other_by (stored font (codes "CFF ")) (stored font (codes "CFF2"))

-- and before them by `glyf`
abbrev pub outlines_by : Option (List ℕ) → Outlines → Outlines
outlines_by (Some glyf) other = TrueType
outlines_by None other = other

abbrev pub outlines_of : Font → Outlines
outlines_of font = outlines_by (stored font (codes "glyf")) (other_outlines font)
