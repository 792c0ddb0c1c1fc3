use Rattle.subsetter_type2.proofs.TraceLaws.{keeps_trace}
use Rattle.subsetter_type2.proofs.laws.flattening_keeps_the_trace.Goals as goal

pub returns : goal.returns
returns c = keeps_trace
