use Rattle.std.proofs.Common.{◌≤◌, ◌<◌, ◌+◌, ◌*◌, ◌^◌, ◌∙◌, ℤ, length, get_or, drop, pos, unsigned_abs, ap, sym, subst, refl, arith, rules, FitsSigned, w64}
use Rattle.std.proofs.lemmas.Int.{to_z-of_z}
use Rattle.subsetter_blend.specs.Runs.Blend.{varied, scalars_in}
use Rattle.subsetter_blend.proofs.RunsLaws.Blends.{vary_more}
use Rattle.subsetter_blend.proofs.runs.sharing.vary.Goals as goal

pub loop-k-preserved : goal.loop-k-preserved
loop-k-preserved g c =
    let ss = scalars_in (g.R.Regions.scalars c.args.regions.now c.args.data_index) in
    let k = c.loop-k.k in
    let fa : FitsSigned w64 c.plus-value.result = search rules in
    let fb : FitsSigned w64 c.share.result = search rules in
    let fc : FitsSigned w64 c.scalar.result = search rules in
    let fd : FitsSigned w64 (get_or c.args.deltas.now k (pos 0)) = search rules in
    let here = to_z-of_z w64 c.plus-value.result fa in
    let sum = simp to_z-of_z at c.plus-value.ensures.value in
    let share_is = simp to_z-of_z at c.share.ensures.value in
    let few : k < length c.args.deltas.now = omega arith in
    let inside : k < length ss = omega (arith, c.requires.regions) in
    record {
      same = ap (λ (z : ℤ). varied z (drop (k + 1) ss) (drop (k + 1) c.args.deltas.now)) here
          ∙ vary_more _ _ _ _ _ _ ss c.args.deltas.now k inside few c.loop-k.invariant.same (c.scalar.ensures.value inside) refl share_is sum;
      bound = subst (λ (z : ℤ). unsigned_abs z ≤ 2 ^ 45 + (k + 1) * 2 ^ 46) (sym here)
          (omega (arith, simp to_z-of_z at c.plus-value.ensures.bound, c.share.ensures.bound, c.loop-k.invariant.bound));
    }
