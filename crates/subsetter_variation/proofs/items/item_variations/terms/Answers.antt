use Rattle.std.specs.Int.{w128}
use Rattle.std.proofs.Common.{◌∙◌, ap, sym, subst, rules, w64, FitsSigned, arith, ◌*◌, ◌^◌, ◌+◌, ◌-◌, ◌≤◌, unsigned_abs, to_z}
use Rattle.std.proofs.lemmas.Int.{to_z-of_z}
use Rattle.subsetter_variation.specs.Items.ItemVariations.{terms}
use Rattle.subsetter_variation.proofs.ItemsLaws.Terms.{on_top, terms_step}
use Rattle.subsetter_variation.proofs.items.item_variations.terms.Goals as goal

pub loop-k-preserved : goal.loop-k-preserved
loop-k-preserved c =
    let f : FitsSigned w128 c.wide_plus-sum.result = search rules in
    let g : FitsSigned w64 c.in_ok-more.more = search rules in
    let v = simp to_z-of_z at c.wide_plus-sum.ensures.value in
    let b = simp to_z-of_z at c.wide_plus-sum.ensures.bound in
    let m = c.in_ok-more.ensures.bound in
    let i = c.loop-k.invariant.bound in
    let e = to_z-of_z w128 c.wide_plus-sum.result f in
    let step = terms_step (to_z w128 c.loop-k.sum-bits) c.in_ok-more.more c.args.s.now c.args.at.now c.args.r.now c.count-count.result c.loop-k.k c.loop-k-test.true (sym c.in_ok-more.ensures.value) in
    record {
      sum = ap (λ z. on_top z (terms c.args.s.now c.args.at.now c.args.r.now (c.count-count.result - (c.loop-k.k + 1)) (c.loop-k.k + 1))) (e ∙ v) ∙ sym step ∙ c.loop-k.invariant.sum;
      bound = subst (λ z. unsigned_abs z ≤ 2 ^ 62 * (c.loop-k.k + 1)) (sym e) (omega (arith, b, m, i));
      known = c.in_ok-more.ensures.known;
    }
