use Rattle.std.proofs.Common.{◌≡◌, ◌+◌, ◌<◌, ◌≤◌, ◌≢◌, ◌^◌, ◌+ℤ◌, length, get_or, arith, None, pos, ap, subst, sym, ◌∙◌, below_more, get_or-set_other, get_or-set_same, unsigned_abs, drop, w64, to_z, of_z}
use Rattle.std.specs.Option.{option_or}
use Rattle.std.proofs.lemmas.List.{take_rest}
use Rattle.subsetter_variation.specs.Glyphs.Inferred.{moved, first_touched}
use Rattle.subsetter_variation.proofs.LocationsLaws.Bounds.{sum_kept}
use Rattle.subsetter_variation.proofs.GlyphsLaws.Walk.{after_touched, after_untouched, none_left, moved_here}
use Rattle.subsetter_variation.proofs.glyphs.contour.add_contour.Goals as goal
use Rattle.subsetter_variation.proofs.glyphs.contour.add_contour.Goals.{in-Some, in_default}

now_moved : (c : goal.Joined-touched) → c.delta_or.result ≡ moved c.args.contour.now c.loop-k.k (to_z w64 (of_z w64 c.args.scalar))
now_moved c =
    let here = moved_here c.args.contour.now c.loop-k.k (record { at = pos 0; delta = None }) (to_z w64 (of_z w64 c.args.scalar)) c.loop-k-test.true in
    let value = c.delta_or.ensures.value in
    let b = c.loop-k.invariant.below in
    let a = c.loop-k.invariant.above in
    cc

now_added : (c : goal.Joined-touched) → to_z w64 (of_z w64 (to_z w64 (of_z w64 (get_or c.loop-k.sums c.loop-k.k (pos 0))) +ℤ to_z w64 (of_z w64 c.delta_or.result))) ≡ get_or c.args.sums.now c.loop-k.k (pos 0) +ℤ moved c.args.contour.now c.loop-k.k (to_z w64 (of_z w64 c.args.scalar))
now_added c =
    let r = c.loop-k.invariant.rest c.loop-k.k (omega arith) in
    let room = c.requires.room c.loop-k.k (omega arith) in
    let small : unsigned_abs (get_or c.loop-k.sums c.loop-k.k (pos 0)) ≤ 2 ^ 62 = omega (arith, ap unsigned_abs r, room) in
    sum_kept (get_or c.loop-k.sums c.loop-k.k (pos 0)) c.delta_or.result small c.delta_or.ensures.bound ∙ ap (λ a. a +ℤ c.delta_or.result) r ∙ ap (λ b. get_or c.args.sums.now c.loop-k.k (pos 0) +ℤ b) (now_moved c)

pub loop-k-preserved : goal.loop-k-preserved
loop-k-preserved c = record {
  below = elim c.match-touched.branch [
    | in-Some w ↦ w.before-is ∙ after_touched c.args.contour.now c.loop-k.k (record { at = pos 0; delta = None }) w.in-Some.found c.loop-k-test.true (sym c.touched.ensures ∙ w.in-Some.is)
    | in_default w ↦ w.before-is ∙ c.loop-k.invariant.below ∙ (after_untouched c.args.contour.now c.loop-k.k (record { at = pos 0; delta = None }) c.loop-k-test.true (sym c.touched.ensures ∙ none_left c.touched.result w.in_default.not-Some)).0
  ];
  above = elim c.match-touched.branch [
    | in-Some w ↦ let t = take_rest c.args.contour.now (c.loop-k.k + 1) in w.after-is ∙ w.or-after.ensures ∙ ap (λ o. option_or o c.first_touched-first.result) (w.first_touched.ensures ∙ ap first_touched t) ∙ ap (λ o. option_or (first_touched (drop (c.loop-k.k + 1) c.args.contour.now)) o) c.first_touched-first.ensures
    | in_default w ↦ w.after-is ∙ c.loop-k.invariant.above ∙ (after_untouched c.args.contour.now c.loop-k.k (record { at = pos 0; delta = None }) c.loop-k-test.true (sym c.touched.ensures ∙ none_left c.touched.result w.in_default.not-Some)).1
  ];
  added = below_more _ _
      (λ j h. let ne : j ≢ c.loop-k.k = omega arith in rw get_or-set_other (c.loop-k.invariant.added j h))
      (let lt : c.loop-k.k < length c.loop-k.sums = omega arith in rw get_or-set_same (now_added c));
  bound = below_more _ _ (λ j h. c.loop-k.invariant.bound j h) (subst (λ z. unsigned_abs z ≤ 2 ^ 45) (now_moved c) c.delta_or.ensures.bound);
  rest = λ j h. let ne : j ≢ c.loop-k.k = omega arith in rw get_or-set_other (c.loop-k.invariant.rest j (omega arith));
}
