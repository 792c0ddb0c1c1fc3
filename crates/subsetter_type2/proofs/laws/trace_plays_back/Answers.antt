use Rattle.subsetter_type2.proofs.TraceLaws.{trace_back}
use Rattle.subsetter_type2.proofs.laws.trace_plays_back.Goals as goal

pub returns : goal.returns
returns c = trace_back
