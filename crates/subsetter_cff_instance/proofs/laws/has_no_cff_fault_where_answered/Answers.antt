use Rattle.subsetter_cff_instance.proofs.FaultLaws.Clean.{clean}
use Rattle.subsetter_cff_instance.proofs.laws.has_no_cff_fault_where_answered.Goals as goal

pub returns : goal.returns
returns c = clean
