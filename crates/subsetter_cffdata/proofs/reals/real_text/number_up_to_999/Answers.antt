use Rattle.std.proofs.Common.{arith, sym}
use Rattle.subsetter_cffdata.proofs.RealsLaws.Trims.{past_999}
use Rattle.subsetter_cffdata.proofs.reals.real_text.number_up_to_999.Goals as goal

pub returns-then-n-gt999-clause-value : goal.returns-then-n-gt999-clause-value
returns-then-n-gt999-clause-value c = sym (past_999 c.args.ds.now c.loop-d.d-index c.loop-d.n (omega arith) c.loop-d.invariant.rest (omega arith))
