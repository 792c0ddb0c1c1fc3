use Rattle.std.proofs.Common.{arith, sym}
use Rattle.subsetter_cffdata.proofs.NumeralsLaws.Wholes.{past_digits}
use Rattle.subsetter_cffdata.proofs.numerals.whole.number_of_digits.Goals as goal

pub returns-then-n-gt-LIMIT-clause-value : goal.returns-then-n-gt-LIMIT-clause-value
returns-then-n-gt-LIMIT-clause-value c = sym (past_digits c.args.ds.now c.loop-d.d-index c.loop-d.n (omega arith) c.loop-d.invariant.rest (omega arith))
