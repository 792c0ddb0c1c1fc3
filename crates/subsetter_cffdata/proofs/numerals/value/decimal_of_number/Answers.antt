use Rattle.std.proofs.Common.{◌≡◌, ◌++◌, ◌∙◌, List, ℕ, arith, ap, sym}
use Rattle.std.specs.Int.Digits.{digits_of}
use Rattle.std.proofs.lemmas.Int.Digits.{length-digits_of-le, all_below_base_digits_of}
use Rattle.subsetter_cffdata.specs.Reals.Decimals.{digits}
use Rattle.subsetter_cffdata.specs.Reals.TextSteps.{shown}
use Rattle.subsetter_cffdata.proofs.RealsLaws.PlainDigits.{digits_are_all}
use Rattle.subsetter_cffdata.proofs.numerals.value.decimal_of_number.Goals as goal

pub put_digits-requires : goal.put_digits-requires
put_digits-requires c =
    let few = length-digits_of-le 10 39 c.args.n (omega arith) c.requires.size in
    omega (arith, few, c.empty-text.ensures.len)

pub decimal_from-requires-clause-digits : goal.decimal_from-requires-clause-digits
decimal_from-requires-clause-digits c =
    let is : shown c.put_digits.new.text ≡ digits_of 10 c.args.n = c.put_digits.ensures.after ∙ ap (λ (x : List ℕ). x ++ digits_of 10 c.args.n) c.empty-text.ensures.value in
    ap digits is ∙ digits_are_all (digits_of 10 c.args.n) (all_below_base_digits_of 10 c.args.n (omega arith)) ∙ sym is
