use Rattle.subsetter_cff.proofs.write.again.tables_compose.Goals as goal
use Rattle.subsetter_cff.proofs.WriteLaws.AgainLaws.ThreeTables as laws

-- src/again.rt
pub returns : goal.returns
returns c = laws.tables_compose
