use Rattle.std.proofs.Common.{sym, ap, ◌∙◌, ℕ}
use Rattle.subsetter_cffdata.specs.Reals.Decimals.{number, signed}
use Rattle.subsetter_cffdata.specs.Numerals.Numbers.{in_i32}
use Rattle.subsetter_cffdata.proofs.NumeralsLaws.Wholes.{no_digits, no_zeros, size_is}
use Rattle.subsetter_cffdata.proofs.numerals.whole.whole_of.Goals as goal

pub returns-in_err-size : goal.returns-in_err-size
returns-in_err-size c = rw c.from_residual.ensures (sym (no_digits c.args.negative (number c.args.ds.now) c.args.zeros (sym c.in_err-size.ensures.value)))

pub returns-in_err-size-2 : goal.returns-in_err-size-2
returns-in_err-size-2 c = rw c.from_residual-in_err-size-2.ensures (sym (no_zeros c.args.negative (number c.args.ds.now) _ c.args.zeros (sym c.in_ok-size.ensures.value) (sym c.in_err-size-2.ensures.value)))

pub returns : goal.returns
returns c = c.with_sign.ensures ∙ ap (λ (n : ℕ). in_i32 (signed c.args.negative n)) (size_is (number c.args.ds.now) _ c.args.zeros _ (sym c.in_ok-size.ensures.value) (sym c.in_ok-size-2.ensures.value))
