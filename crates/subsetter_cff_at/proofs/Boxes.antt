-- The boxes of the glyphs of a new table.
--   no_box                                        endchar alone has none
--   drawn_box_fits, drawn_box_length              FontBBox is four numbers of 16 bits
--   entry_boxes_are, drawn_box_is                 those of the entries are those of the charstrings
--   boxes_back                                    read afresh
--   box_there, box_missing                        that of one glyph
use Rattle.std.proofs.Common.{◌≡◌, ℕ, FitsSigned, w16, List, [], ◌∷◌, length, map, Option, Some, None, refl, ap, sym, ◌∙◌, subst}
use Rattle.std.specs.Prelude.{Ok}
use Rattle.std.specs.List.{AllByRecursion}
use Rattle.subsetter_base.specs.Options.{◌>>=◌}
use Rattle.subsetter_cffdata.specs.Numerals.CharStringNumber.{number_at}
use Rattle.subsetter_cff.specs.Read.Cff.{Cff, cff_parts, char_strings}
use Rattle.subsetter_boxes.specs.CharstringBox.{charstring_box}
use Rattle.subsetter_boxes.specs.Joined.{font_box, least_box}
use Rattle.subsetter_boxes.proofs.Fitting.{font_box_fits, font_box_length, least_box_fits}
use Rattle.subsetter_points.specs.declared.bounds.Bounds.{Bounds}
use Rattle.subsetter_cff_at.specs.Boxes.{boxes_in, entry_boxes, table_boxes}
use Rattle.subsetter_cff_at.specs.Plain.{all_filled, no_glyph, text_boxes, Drawn, drawn_box}

pub no_box : charstring_box no_glyph ≡ None
unfolding charstring_box number_at
no_box = refl

-- ---- FontBBox
pub drawn_box_fits : (d : Drawn) → AllByRecursion (FitsSigned w16) (drawn_box d)
unfolding drawn_box
drawn_box_fits d = font_box_fits (least_box (text_boxes d.texts)) (least_box_fits (all_filled d.texts))

pub drawn_box_length : (d : Drawn) → length (drawn_box d) ≡ 4
unfolding drawn_box
drawn_box_length d = font_box_length (least_box (text_boxes d.texts))

-- ---- read afresh
pub entry_boxes_are : (charstrings : List (List ℕ)) → entry_boxes (map Some charstrings) ≡ map charstring_box charstrings
entry_boxes_are [] = refl
entry_boxes_are (c ∷ charstrings) = ap (λ (l : List (Option Bounds)). charstring_box c ∷ l) (entry_boxes_are charstrings)

pub drawn_box_is : (d : Drawn) → drawn_box d ≡ font_box (least_box (entry_boxes (map Some (all_filled d.texts))))
unfolding drawn_box
drawn_box_is d = ap (λ (l : List (Option Bounds)). font_box (least_box l)) (sym (entry_boxes_are (all_filled d.texts)))

pub table_boxes_are : (table : List ℕ) (copy : Cff) (entries : List (Option (List ℕ))) → cff_parts table ≡ Some copy → char_strings copy ≡ Some entries → table_boxes table ≡ entry_boxes entries
unfolding table_boxes
table_boxes_are table copy entries is are = rw (is, are) refl
