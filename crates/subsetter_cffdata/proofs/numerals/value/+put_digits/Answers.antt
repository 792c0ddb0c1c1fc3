use Rattle.std.proofs.Common.{◌++◌, ◌/◌, ◌%◌, ◌∙◌, List, ℕ, [], ◌∷◌, arith, ap, sym, append_assoc}
use Rattle.std.specs.Int.Digits.{digits_of}
use Rattle.std.proofs.lemmas.Int.Digits.{digits_of_step, length-digits_of_step}
use Rattle.subsetter_cffdata.specs.Reals.TextSteps.{shown}
use Rattle.subsetter_cffdata.proofs.numerals.value.+put_digits.Goals as goal

pub put_digits-requires : goal.put_digits-requires
put_digits-requires t c =
    let more = length-digits_of_step 10 c.args.n (omega arith) (omega (arith, c.if-n-gt0.true)) in
    (omega (arith, c.if-n-gt0.true, c.decreases), omega (arith, more, c.requires))

pub put-requires : goal.put-requires
put-requires t c =
    let more = length-digits_of_step 10 c.args.n (omega arith) (omega (arith, c.if-n-gt0.true)) in
    omega (arith, more, c.requires, c.put_digits.ensures.len)

pub returns-then-n-gt0-clause-after : goal.returns-then-n-gt0-clause-after
returns-then-n-gt0-clause-after t c =
    let step = digits_of_step 10 c.args.n (omega arith) (omega (arith, c.if-n-gt0.true)) in
    c.put.ensures.after
    ∙ ap (λ (x : List ℕ). x ++ (c.args.n % 10) ∷ []) c.put_digits.ensures.after
    ∙ append_assoc (shown c.args.text.now) (digits_of 10 (c.args.n / 10)) ((c.args.n % 10) ∷ [])
    ∙ ap (λ (x : List ℕ). shown c.args.text.now ++ x) (sym step)

pub returns-then-n-gt0-clause-len : goal.returns-then-n-gt0-clause-len
returns-then-n-gt0-clause-len t c =
    let more = length-digits_of_step 10 c.args.n (omega arith) (omega (arith, c.if-n-gt0.true)) in
    omega (arith, more, c.put.ensures.len, c.put_digits.ensures.len)
