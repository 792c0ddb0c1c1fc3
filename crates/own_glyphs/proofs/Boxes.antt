-- Parts whose boxes were found are glyphs of the font.
--   are_numbers                  their numbers have 16 bits
use Rattle.std.proofs.Common.{◌≡◌, ℕ, zero, suc, ◌<◌, ◌≤◌, Bool, true, false, cond, ltb, List, [], ◌∷◌, Option, Some, None, Ok, refl, subst, arith}
use Rattle.std.specs.Prelude.{slice_get}
use Rattle.std.specs.List.{fold}
use Rattle.std.specs.Option.{ok_or}
use Rattle.std.proofs.lemmas.Bool.{ltb-true}
use Rattle.subsetter_base.specs.Bytes.{◌>>=◌}
use Rattle.subsetter_base.specs.declared.error.Error.TheVariants.{MalformedFont}
use Rattle.subsetter_base.proofs.Options.{just_is}
use Rattle.subsetter_base.proofs.Results.{bind_ok, named_ok}
use Rattle.subsetter_points.specs.declared.bounds.Bounds.{Bounds}
use Rattle.subsetter.specs.Glyf.Read.{outline_in}
use Rattle.own_glyphs.specs.declared.glyph.OwnGlyph.{OwnGlyph}
use Rattle.own_glyphs.specs.declared.glyph.Part.{Part}
use Rattle.own_glyphs.specs.Composite.{around, box_in, box_or_zero, joined, moved_box, outline_of, own_box, own_boxes, part_box, part_boxes, tables}
use Rattle.own_glyphs.specs.Source.{Source}
use Rattle.own_glyphs.proofs.Composites.{AreNumbers}

below : (s : Source) (g : ℕ) (bytes : List ℕ) → outline_of s g ≡ Some bytes → g < s.count
below s g bytes h = by (ltb g s.count) refl h
  where
    by : (b : Bool) → ltb g s.count ≡ b → cond b (outline_in (tables s) g) None ≡ Some bytes → g < s.count
    by true e k = ltb-true g s.count e
    by false e k = absurd cc

part_below : (s : Source) (p : Part) (b : Option Bounds) → part_box s p ≡ Ok b → p.glyph < s.count
unfolding part_box
part_below s p b h =
    let a = bind_ok (ok_or (outline_of s p.glyph) MalformedFont) (λ bytes. ok_or (box_in bytes) MalformedFont >>= λ found. moved_box found p) b h in
    below s p.glyph a.0 (named_ok (outline_of s p.glyph) MalformedFont a.0 a.1)

module _ (s : Source) (few : s.count ≤ 65535) where
  parts_are : (parts : List Part) (bs : List (Option Bounds)) → part_boxes s parts ≡ Ok bs → AreNumbers parts
  parts_are [] bs h = tt
  parts_are (p ∷ parts) bs h =
      let a = bind_ok (part_box s p) (λ first. part_boxes s parts >>= λ rest. Ok (first ∷ rest)) bs h in
      let b = bind_ok (part_boxes s parts) (λ rest. Ok (a.0 ∷ rest)) bs a.2 in
      (omega (arith, part_below s p a.0 a.1), parts_are parts b.0 b.1)

  box_are : (parts : List Part) (b : Bounds) → own_box s parts ≡ Ok b → AreNumbers parts
  unfolding own_box
  box_are parts b h =
      let a = bind_ok (around None (part_boxes s parts)) (λ found. Ok (box_or_zero found)) b h in
      let c = bind_ok (part_boxes s parts) (λ bs. Ok (fold joined None bs)) a.0 a.1 in
      parts_are parts c.0 c.1

  pub are_numbers_by : (own : List OwnGlyph) (boxes : List Bounds) (i : ℕ) (o : OwnGlyph) → own_boxes s own ≡ Ok boxes → slice_get own i ≡ Some o → AreNumbers o.parts.now
  are_numbers_by [] boxes i o h k = absurd cc
  are_numbers_by (p ∷ own) boxes zero o h k =
      let a = bind_ok (own_box s p.parts.now) (λ first. own_boxes s own >>= λ rest. Ok (first ∷ rest)) boxes h in
      subst (λ (q : OwnGlyph). AreNumbers q.parts.now) (just_is p o k) (box_are p.parts.now a.0 a.1)
  are_numbers_by (p ∷ own) boxes (suc i) o h k =
      let a = bind_ok (own_box s p.parts.now) (λ first. own_boxes s own >>= λ rest. Ok (first ∷ rest)) boxes h in
      let b = bind_ok (own_boxes s own) (λ rest. Ok (a.0 ∷ rest)) boxes a.2 in
      are_numbers_by own b.0 i o b.1 k

pub are_numbers : (s : Source) (own : List OwnGlyph) → s.count ≤ 65535 → (boxes : List Bounds) (i : ℕ) (o : OwnGlyph) → own_boxes s own ≡ Ok boxes → slice_get own i ≡ Some o → AreNumbers o.parts.now
are_numbers s own few boxes i o h k = are_numbers_by s few own boxes i o h k
