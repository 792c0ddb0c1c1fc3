use Rattle.std.proofs.Common.{◌≡◌, ◌++◌, ◌∙◌, ap, sym, take, List, ℕ}
use Rattle.std.proofs.lemmas.List.{append-nil}
use Rattle.subsetter_cffdata.specs.Reals.Decimals.{digits}
use Rattle.subsetter_cffdata.proofs.RealsLaws.PlainDigits.{digits_twice, no_digits}
use Rattle.subsetter_cffdata.proofs.reals.real_text.split_digits.Goals as goal

pub returns-then-c-ge-POINT-clause-digits : goal.returns-then-c-ge-POINT-clause-digits
returns-then-c-ge-POINT-clause-digits c =
    let text = c.args.text.now in
    let i = c.loop-i.i in
    let front : c.split_at.result.0.now ≡ digits text =
    c.split_at.ensures.front ∙ sym (append-nil (take i text))
    ∙ ap (λ (x : List ℕ). take i text ++ x) (sym (no_digits text i c.loop-i-test.true c.if-c-ge-POINT.true)) ∙ c.loop-i.invariant.front in
    rw front (digits_twice text)
