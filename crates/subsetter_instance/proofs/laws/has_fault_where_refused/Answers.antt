use Rattle.subsetter_instance.proofs.FaultLaws.Refused.{refused}
use Rattle.subsetter_instance.proofs.laws.has_fault_where_refused.Goals as goal

pub returns : goal.returns
returns c = refused
