-- The boxes of the glyphs of the new font, one by one.
--   box_there                 of a glyph that was asked for, by its charstring
--   no_box_there              none of each other one
--   boxes_many                as many as the font has glyphs
use Rattle.std.proofs.Common.{◌≡◌, ℕ, zero, suc, ◌<◌, List, [], ◌∷◌, length, Option, Some, None, refl, sym, ap, ◌∙◌}
use Rattle.std.specs.Prelude.{Contains, slice_get}
use Rattle.std.specs.Option.{option_and_then, option_map}
use Rattle.std.proofs.lemmas.List.{length-map}
use Rattle.std.proofs.lemmas.Option.{slice_get-map}
use Rattle.subsetter_type2.specs.Subroutines.{entry_at}
use Rattle.subsetter_cff.specs.Read.Cff.{char_string}
use Rattle.subsetter_boxes.specs.CharstringBox.{charstring_box}
use Rattle.subsetter_points.specs.declared.bounds.Bounds.{Bounds}
use Rattle.subsetter_sfnt.specs.declared.fields.hmtx.LongHorMetric.{LongHorMetric}
use Rattle.subsetter_cff_at.specs.Boxes.{entry_boxes, table_boxes}
use Rattle.subsetter_cff_at.specs.Plain.{no_glyph}
use Rattle.subsetter_cff_at.specs.Promise.{IsTableAt}
use Rattle.subsetter_cff_at.proofs.Boxes.{no_box, table_boxes_are}
use Rattle.subsetter_cff_instance.specs.Boxes.{among}
use Rattle.subsetter_cff_instance.specs.Metrics.{metrics_by_glyph}
use Rattle.subsetter_cff_instance.specs.Plain.{Prepared, request_at}
use Rattle.subsetter_cff_instance.proofs.FileLaws.Metrics.{at_glyph, length-by_glyph, not_among}

among_entry : (entries : List (Option (List ℕ))) (g : ℕ) → among (entry_boxes entries) g ≡ option_and_then charstring_box (entry_at entries g)
among_entry [] g = refl
among_entry (entry ∷ entries) zero = refl
among_entry (entry ∷ entries) (suc g) = among_entry entries g

module _ (cff2 : List ℕ) (glyphs : List ℕ) (p : Prepared) (tokens depth : ℕ) (table : List ℕ) (t : IsTableAt cff2 (request_at glyphs p) tokens depth table) where
  abbrev entries : List (Option (List ℕ))
  entries = t.charstrings

  pub boxes_are : table_boxes table ≡ entry_boxes t.charstrings
  boxes_are = table_boxes_are table t.copy t.charstrings t.copy_is t.charstrings_are

  pub box_there : (g : ℕ) (bytes : List ℕ) → char_string t.copy g ≡ Some bytes → among (table_boxes table) g ≡ charstring_box bytes
  box_there g bytes h =
      let entry : entry_at t.charstrings g ≡ Some bytes = ap (λ (o : Option (List (Option (List ℕ)))). option_and_then (λ (all : List (Option (List ℕ))). entry_at all g) o) (sym t.charstrings_are) ∙ h in
      ap (λ (boxes : List (Option Bounds)). among boxes g) boxes_are ∙ among_entry t.charstrings g ∙ ap (option_and_then charstring_box) entry

  not_asked : (g : ℕ) → g < p.source.count → (Contains glyphs g → ⊥) → slice_get (request_at glyphs p).glyphs g ≡ Some None
  not_asked g lt none =
      let width = λ (x : LongHorMetric). x.advance_width in
      slice_get-map (option_map width) (metrics_by_glyph glyphs p.metrics p.source.count) g
      ∙ ap (option_map (option_map width)) (at_glyph glyphs p.metrics p.source.count g lt ∙ ap (λ (o : Option LongHorMetric). Some o) (not_among glyphs p.metrics g none))

  pub no_box_there : (g : ℕ) → g < p.source.count → (Contains glyphs g → ⊥) → among (table_boxes table) g ≡ None
  no_box_there g lt none = box_there g no_glyph (t.empty g (not_asked g lt none)) ∙ no_box

  pub boxes_many : length (table_boxes table) ≡ p.source.count
  boxes_many =
      let all = metrics_by_glyph glyphs p.metrics p.source.count in
      ap length boxes_are ∙ length-map t.charstrings (option_and_then charstring_box) ∙ t.count ∙ length-map all (option_map (λ (m : LongHorMetric). m.advance_width)) ∙ length-by_glyph glyphs p.metrics p.source.count
