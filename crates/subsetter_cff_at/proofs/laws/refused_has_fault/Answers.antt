use Rattle.subsetter_cff_at.proofs.FaultLaws.Faults.{refused_stands}
use Rattle.subsetter_cff_at.proofs.laws.refused_has_fault.Goals as goal

pub returns : goal.returns
returns c = refused_stands
