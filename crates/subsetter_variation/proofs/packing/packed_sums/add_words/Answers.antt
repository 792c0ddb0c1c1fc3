use Rattle.std.proofs.Common.{◌≡◌, ◌+◌, ◌*◌, ◌<◌, ◌≤◌, ◌≢◌, ◌^◌, ◌+ℤ◌, ◌*ℤ◌, length, get_or, arith, pos, ap, subst, ◌∙◌, below_more, get_or-set_other, get_or-set_same, unsigned_abs, rules, FitsSigned, w16, w64, to_z, of_z}
use Rattle.std.specs.Int.{cast_signed}
use Rattle.std.proofs.lemmas.Int.{to_z-of_z}
use Rattle.subsetter_variation.proofs.LocationsLaws.Bounds.{sum_fits, sum_kept}
use Rattle.subsetter_variation.proofs.packing.packed_sums.add_words.Goals as goal

pub loop-k-preserved : goal.loop-k-preserved
loop-k-preserved c =
    let k = c.loop-k.k in
    let s = to_z w64 (of_z w64 c.args.scalar) in
    let r = c.loop-k.invariant.rest k (omega arith) in
    let room = c.requires.room k (omega arith) in
    let small : unsigned_abs (get_or c.loop-k.sums k (pos 0)) ≤ 2 ^ 62 = omega (arith, ap unsigned_abs r, room) in
    let f : FitsSigned w16 c.word_at.result = search rules in
    let value = c.scalar_times_delta.ensures.value ∙ ap (λ d. s *ℤ d) (to_z-of_z w16 c.word_at.result f ∙ c.word_at.ensures) in
    let now_added : to_z w64 (of_z w64 (to_z w64 (of_z w64 (get_or c.loop-k.sums k (pos 0))) +ℤ to_z w64 (of_z w64 c.scalar_times_delta.result))) ≡ get_or c.args.sums.now k (pos 0) +ℤ s *ℤ cast_signed w16 (get_or c.args.bytes.now (k * 2) 0 * 256 + get_or c.args.bytes.now (k * 2 + 1) 0) = sum_kept (get_or c.loop-k.sums k (pos 0)) c.scalar_times_delta.result small c.scalar_times_delta.ensures.bound ∙ ap (λ a. a +ℤ c.scalar_times_delta.result) r ∙ ap (λ b. get_or c.args.sums.now k (pos 0) +ℤ b) value in
    record {
      added = below_more _ _
          (λ j h. let ne : j ≢ k = omega arith in rw get_or-set_other (c.loop-k.invariant.added j h))
          (let lt : k < length c.loop-k.sums = omega arith in rw get_or-set_same now_added);
      bound = below_more _ _ (λ j h. c.loop-k.invariant.bound j h) (subst (λ z. unsigned_abs z ≤ 2 ^ 45) value c.scalar_times_delta.ensures.bound);
      rest = λ j h. let ne : j ≢ k = omega arith in rw get_or-set_other (c.loop-k.invariant.rest j (omega arith));
    }

pub overflow_add-sums : goal.overflow_add-sums
overflow_add-sums c =
    let r = c.loop-k.invariant.rest c.loop-k.k (omega arith) in
    let room = c.requires.room c.loop-k.k (omega arith) in
    let small : unsigned_abs (get_or c.loop-k.sums c.loop-k.k (pos 0)) ≤ 2 ^ 62 = omega (arith, ap unsigned_abs r, room) in
    sum_fits (get_or c.loop-k.sums c.loop-k.k (pos 0)) c.scalar_times_delta.result small c.scalar_times_delta.ensures.bound
