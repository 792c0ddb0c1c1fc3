use Rattle.std.proofs.Common.{◌≡◌, ◌∙◌, ◌<◌, rules, ◌++◌, ◌∷◌, [], length, arith, w64, FitsSigned, to_z, of_z}
use Rattle.std.proofs.lemmas.Int.{to_z-of_z}
use Rattle.subsetter_blend.specs.Runs.Blend.{scalars_in}
use Rattle.subsetter_cff2.specs.Variation.{data_scalars}
use Rattle.subsetter_cff2.proofs.RegionLists.{one_more_scalar}
use Rattle.subsetter_cff2.proofs.KeptLaws.{count_of, kept_next}
use Rattle.subsetter_cff2.proofs.variation.first_scalars.Goals as goal

pub loop-region-preserved : goal.loop-region-preserved
loop-region-preserved c =
    let ss = scalars_in (data_scalars c.args.all.now 0) in
    let x = c.scalar.result in
    let k = c.loop-region.region in
    let f : FitsSigned w64 x = search rules in
    let kept : to_z w64 (of_z w64 x) ≡ x = to_z-of_z w64 x f in
    let items : c.push.new.self.items ≡ c.loop-region.scalars.items ++ x ∷ [] = cc (c.in_ok-push.ensures.items, kept) in
    let many : c.unwrap_or-count.result ≡ length ss = c.unwrap_or-count.ensures ∙ count_of (data_scalars c.args.all.now 0) c.args.count c.requires in
    let inside : k < length ss = omega (arith, c.loop-region-test.true, many) in
    record {
      same = kept_next c.loop-region.scalars.items c.push.new.self.items ss k x inside c.loop-region.invariant.same (c.scalar.ensures.value inside) items;
      bound = one_more_scalar c.loop-region.scalars.items c.push.new.self.items x items c.scalar.ensures.bound c.loop-region.invariant.bound;
    }
