use Rattle.subsetter_instance.proofs.FaultLaws.Clean.{clean}
use Rattle.subsetter_instance.proofs.laws.has_none_where_answered.Goals as goal

pub returns : goal.returns
returns c = clean
