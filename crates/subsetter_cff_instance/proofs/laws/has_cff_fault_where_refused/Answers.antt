use Rattle.subsetter_cff_instance.proofs.FaultLaws.Refused.{refused}
use Rattle.subsetter_cff_instance.proofs.laws.has_cff_fault_where_refused.Goals as goal

pub returns : goal.returns
returns c = refused
