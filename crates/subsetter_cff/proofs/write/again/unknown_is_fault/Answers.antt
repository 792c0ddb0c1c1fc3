use Rattle.subsetter_cff.proofs.write.again.unknown_is_fault.Goals as goal
use Rattle.subsetter_cff.proofs.WriteLaws.AgainLaws.Faults as laws

-- src/again.rt
pub returns : goal.returns
returns c = laws.unknown_is_fault
