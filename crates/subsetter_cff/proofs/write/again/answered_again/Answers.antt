use Rattle.subsetter_cff.proofs.write.again.answered_again.Goals as goal
use Rattle.subsetter_cff.proofs.WriteLaws.AgainLaws.ThreeTables as laws

-- src/again.rt
pub returns : goal.returns
returns c = laws.answered_again
