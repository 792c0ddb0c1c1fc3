use Rattle.std.proofs.Common.{◌<◌, ◌+◌, ◌*◌, ◌^◌, length, refl, arith, rules, FitsSigned, w64}
use Rattle.std.proofs.lemmas.Int.{to_z-of_z}
use Rattle.subsetter_blend.specs.Runs.Blend.{scalars_in}
use Rattle.subsetter_cff2.specs.Variation.{data_scalars}
use Rattle.subsetter_cff2.proofs.PrivateDictsLaws.Sharing.{vary_more, looser}
use Rattle.subsetter_cff2.proofs.private_dicts.blend.vary.Goals as goal

pub loop-k-preserved : goal.loop-k-preserved
loop-k-preserved c =
    let ss = scalars_in (data_scalars c.args.variation.now c.args.outer) in
    let k = c.loop-k.k in
    let fc : FitsSigned w64 c.scalar.result = search rules in
    let inside : k < length ss = omega (arith, c.requires.regions) in
    let few : k < length c.args.deltas.now = omega (arith, c.requires.deltas) in
    let value = simp to_z-of_z at c.with_share-value.ensures.value in
    record {
      same = vary_more _ _ _ _ _ ss c.args.deltas.now k inside few c.loop-k.invariant.same (c.scalar.ensures.value inside) refl value;
      bound = looser c.with_share-value.result _ _ (omega arith) (c.with_share-value.ensures.bound (2 ^ 45 + k * 2 ^ 46) c.loop-k.invariant.bound);
    }
