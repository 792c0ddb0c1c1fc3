use Rattle.std.proofs.Common.{◌≡◌, true, Ok, length, ap, sym, subst, ◌∙◌, FitsSigned, w64}
use Rattle.std.specs.Option.{ok_or, option_map}
use Rattle.std.proofs.lemmas.Int.{to_z-of_z}
use Rattle.subsetter_base.specs.Gives.{Gives}
use Rattle.subsetter_base.specs.declared.error.Error.TheVariants.{MalformedFont}
use Rattle.subsetter_variation.specs.Packing.Packed.{point_numbers}
use Rattle.subsetter_variation.specs.Glyphs.Tuples.{both_deltas, count_of}
use Rattle.subsetter_variation.specs.Glyphs.Movement.{moved_by, spent}
use Rattle.subsetter_variation.proofs.GlyphsLaws.Counted.{counted_private}
use Rattle.subsetter_variation.proofs.glyphs.movement.counted_walk.Goals as goal

pub returns-in_ok-numbers-clause-value : goal.returns-in_ok-numbers-clause-value
returns-in_ok-numbers-clause-value c =
    let f : FitsSigned w64 c.args.scalar = c.ranges.scalar in
    let numbers = option_map (λ v. v.items) c.in_ok-numbers.numbers in
    let n = length c.args.o.now.xs in
    let rest = c.in_ok-numbers.rest.now in
    let left = c.in_ok-left.left in
    let steps : spent n c.args.w.steps ≡ Ok left = sym (c.in_ok-left.ensures ∙ ap (λ k. spent k c.steps.result) c.count-n.ensures ∙ ap (spent n) c.steps.ensures) in
    let own : c.args.h.private_numbers ≡ true = sym c.has_private_numbers.ensures ∙ c.if-has_private_numbers.true in
    let read : ok_or (point_numbers n c.args.h.packed) MalformedFont ≡ Ok (numbers, rest) = ap (λ k. ok_or (point_numbers k c.args.h.packed) MalformedFont) (sym c.count-n.ensures) ∙ ap (λ b. ok_or (point_numbers c.count-n.result b) MalformedFont) (sym c.packed.ensures) ∙ c.in_ok-numbers.ensures.exact in
    subst (λ r. Gives (λ v. v) c.moved_by_packed-moved.result r) (ap (λ s. ok_or (option_map (λ d. moved_by c.args.o.now s numbers d.0 d.1 left c.args.w) (both_deltas (count_of n numbers) rest)) MalformedFont) (to_z-of_z w64 c.args.scalar f) ∙ sym (counted_private c.args.o.now _ numbers c.args.scalar c.args.h c.args.w left rest steps own read)) c.moved_by_packed-moved.ensures.value
