use Rattle.std.proofs.Common.{◌≡◌, ◌∙◌, ◌∷◌, [], sym, ap, subst, length, Option, List, None, arith, ℕ, ℤ, inl, inr}
use Rattle.std.specs.Option.{option_map}
use Rattle.std.proofs.lemmas.Bool.{cases_lt}
use Rattle.std.proofs.lemmas.List.{length-append}
use Rattle.subsetter_variation.specs.Items.ItemVariations.{data_regions}
use Rattle.subsetter_cff2.specs.Variation.{Variation, data_scalars}
use Rattle.subsetter_cff2.specs.Kept.{known}
use Rattle.subsetter_cff2.proofs.KeptLaws.{known_before, known_last, known_past, none_there}
use Rattle.subsetter_cff2.proofs.variation.Located.counts.Goals as goal

pub loop-outer-preserved : goal.loop-outer-preserved
loop-outer-preserved c =
    let xs = c.loop-outer.counts.items in
    let x = c.count.result in
    let n = c.loop-outer.outer in
    let size : length xs ≡ n = c.loop-outer.invariant.size in
    record {
      counted = λ k less. ap (λ (l : List (Option ℕ)). known l k) c.in_ok-push.ensures.items ∙ elim (cases_lt k n) [
        | inl before ↦ known_before xs x k (omega (arith, before, size)) ∙ c.loop-outer.invariant.counted k before
        | inr last ↦ (
            let here : n ≡ k = omega (arith, less, last) in
            known_last xs x k (size ∙ here) ∙ c.count.ensures ∙ ap (λ (i : ℕ). option_map (λ (s : List ℤ). length s) (data_scalars c.args.self.now i)) (c.from-in-loop-outer.ensures ∙ here))
      ];
      size = omega (arith, ap length c.in_ok-push.ensures.items, length-append xs (x ∷ []), size);
    }

pub returns-clause-ok : goal.returns-clause-ok
returns-clause-ok c = λ outer. elim (cases_lt outer c.loop-outer.outer) [
  | inl there ↦ c.loop-outer.invariant.counted outer there
  | inr past ↦ known_past c.loop-outer.counts.items outer (omega (arith, past, c.loop-outer.invariant.size)) ∙ sym (none_there c.args.self.now outer (subst (λ (v : Variation). data_regions v.store outer ≡ None) c.self.view_is (c.data_count-data_count.ensures outer (omega (arith, past, c.loop-outer-test.false)))))
]

pub returns-clause-few : goal.returns-clause-few
returns-clause-few c = omega (arith, c.loop-outer.invariant.size, c.loop-outer.auto.outer-end, c.data_count-data_count.type_inv)
