use Rattle.std.proofs.Common.{◌≡◌, ℕ, ◌+◌, ◌-◌, List, [], ◌∷◌, ◌++◌, ap, sym, ◌∙◌, arith, append_assoc}
use Rattle.subsetter_pdf_c.specs.Texts.{one_each}
use Rattle.subsetter_pdf_c.proofs.Steps.{next_each}
use Rattle.subsetter_pdf_c.proofs.texts.ends_of.Goals as goal

pub loop-place-preserved : goal.loop-place-preserved
loop-place-preserved c =
    let xs = c.loop-place.ends.items in
    let p = c.loop-place.place in
    let n = c.args.count in
    ap (λ (l : List ℕ). l ++ one_each (p + 1) (n - (p + 1))) c.in_ok-push.ensures.items
    ∙ append_assoc xs ((p + 1) ∷ []) (one_each (p + 1) (n - (p + 1)))
    ∙ ap (λ (l : List ℕ). xs ++ l) (sym (next_each p n (omega arith)))
    ∙ c.loop-place.invariant
