-- What `CFF ` says of a font (Technical Note 5176).
use Rattle.std.specs.Prelude.{ℕ, List, codes, Option, Some, None}
use Rattle.pdf_cff.specs.Values.{CffValues, cff_values_in}
use Rattle.pdf_boxes.specs.Kept.{kept_box}
use Rattle.pdf_values.specs.declared.looks.bounds.GlyphBox.{GlyphBox}
use Rattle.pdf_values.specs.Head.{units_per_em}

-- of a font without `CFF ` nothing
abbrev pub cff_values_of : ℕ → Option (List ℕ) → CffValues
cff_values_of units None = record { name = None; stem = None }
cff_values_of units (Some cff) = cff_values_in units cff

unfoldable pub cff_values_by : (List ℕ → Option (List ℕ)) → CffValues
cff_values_by find = cff_values_of (units_per_em (find (codes "head"))) (find (codes "CFF "))

-- the least box around its first glyphs
abbrev pub cff_box : Option (List ℕ) → ℕ → Option GlyphBox
cff_box None count = None
cff_box (Some cff) count = kept_box cff count

-- the stem of the `CFF ` of the source; of a source without one that of the new font, whose private dicts have the
-- blends of outlines in CFF2 resolved
abbrev pub font_stem_by : Option (List ℕ) → (List ℕ → Option (List ℕ)) → (List ℕ → Option (List ℕ)) → Option ℕ
font_stem_by None find new = (cff_values_by new).stem
font_stem_by (Some cff) find new = (cff_values_by find).stem

abbrev pub font_stem : (List ℕ → Option (List ℕ)) → (List ℕ → Option (List ℕ)) → Option ℕ
font_stem find new = font_stem_by (find (codes "CFF ")) find new
