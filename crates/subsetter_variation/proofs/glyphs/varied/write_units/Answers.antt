use Rattle.std.proofs.Common.{◌<◌, ◌≢◌, ◌^◌, ◌*ℤ◌, length, get_or, arith, pos, ap, ◌∙◌, below_more, get_or-set_other, get_or-set_same, rules, FitsSigned, w16, w64}
use Rattle.std.proofs.lemmas.Int.{to_z-of_z}
use Rattle.subsetter_variation.proofs.glyphs.varied.write_units.Goals as goal

pub loop-k-preserved : goal.loop-k-preserved
loop-k-preserved c =
    let k = c.loop-k.k in
    let f : FitsSigned w16 (get_or c.args.coordinates.now k (pos 0)) = search rules in
    let g : FitsSigned w64 c.scalar_times_delta.result = search rules in
    let lt : k < length c.loop-k.sums = omega (arith, c.loop-k.auto.sums) in
    let here = to_z-of_z w64 c.scalar_times_delta.result g in
    let value = here ∙ c.scalar_times_delta.ensures.value ∙ ap (λ d. pos (2 ^ 30) *ℤ d) (to_z-of_z w16 (get_or c.args.coordinates.now k (pos 0)) f) in
    record {
      value = below_more _ _
          (λ j h. let ne : j ≢ k = omega arith in rw get_or-set_other (c.loop-k.invariant.value j h))
          (rw get_or-set_same value);
      bound = below_more _ _
          (λ j h. let ne : j ≢ k = omega arith in rw get_or-set_other (c.loop-k.invariant.bound j h))
          (rw get_or-set_same (rw here c.scalar_times_delta.ensures.bound));
    }
