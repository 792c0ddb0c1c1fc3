use Rattle.subsetter_type2.proofs.TraceLaws.{one_trace}
use Rattle.subsetter_type2.proofs.laws.trace_is_one.Goals as goal

pub returns : goal.returns
returns c = one_trace
