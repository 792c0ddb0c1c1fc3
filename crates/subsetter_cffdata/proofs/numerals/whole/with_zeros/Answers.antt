use Rattle.std.proofs.Common.{arith, sym, ◌∙◌}
use Rattle.subsetter_cffdata.proofs.NumeralsLaws.Wholes.{past_zeros, zero_more}
use Rattle.subsetter_cffdata.proofs.numerals.whole.with_zeros.Goals as goal

pub returns-then-size-gt-LIMIT-clause-value : goal.returns-then-size-gt-LIMIT-clause-value
returns-then-size-gt-LIMIT-clause-value c = sym (past_zeros c.args.n c.args.count c.loop.size c.loop.counter (omega arith) c.loop.invariant.rest (omega arith))

pub loop-preserved : goal.loop-preserved
loop-preserved c = record {
  small = omega arith;
  rest = zero_more c.loop.size c.loop.counter c.args.count (omega arith) ∙ c.loop.invariant.rest;
}
