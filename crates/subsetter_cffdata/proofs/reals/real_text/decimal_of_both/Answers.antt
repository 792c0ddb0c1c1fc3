use Rattle.std.proofs.Common.{◌≡◌, ◌++◌, ◌∙◌, ap, List, ℕ, to_z, of_z, w32, length, take, arith}
use Rattle.std.specs.Prelude.{pos, ◌-ℤ◌}
use Rattle.std.proofs.lemmas.Int.{ints}
use Rattle.subsetter_cffdata.proofs.RealsLaws.PlainDigits.{digits_both, same_decimal}
use Rattle.subsetter_cffdata.proofs.reals.real_text.decimal_of_both.Goals as goal

pub decimal_from-requires-clause-digits : goal.decimal_from-requires-clause-digits
decimal_from-requires-clause-digits c =
    let both = c.put_all-2.ensures.after ∙ ap (λ (x : List ℕ). x ++ c.args.fraction.now) (c.put_all.ensures.after ∙ ap (λ (x : List ℕ). x ++ c.args.front.now) c.empty-all.ensures.value) in
    rw both (digits_both c.args.front.now c.args.fraction.now c.requires.front c.requires.fraction)

pub returns : goal.returns
returns c =
    let both : take c.put_all-2.new.text.len c.put_all-2.new.text.characters ≡ c.args.front.now ++ c.args.fraction.now =
    c.put_all-2.ensures.after ∙ ap (λ (x : List ℕ). x ++ c.args.fraction.now) (c.put_all.ensures.after ∙ ap (λ (x : List ℕ). x ++ c.args.front.now) c.empty-all.ensures.value) in
    c.decimal_from.ensures
    ∙ same_decimal c.args.negative (take c.put_all-2.new.text.len c.put_all-2.new.text.characters) (c.args.front.now ++ c.args.fraction.now)
    (to_z w32 (of_z w32 c.last_power-power.result)) (c.args.exponent -ℤ pos (length c.args.fraction.now)) both
    (omega (arith, ints, c.last_power-power.ensures, c.requires.low, c.requires.high, c.requires.room))
