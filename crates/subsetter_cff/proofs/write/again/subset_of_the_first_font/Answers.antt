use Rattle.subsetter_cff.proofs.write.again.subset_of_the_first_font.Goals as goal
use Rattle.subsetter_cff.proofs.WriteLaws.AgainLaws.Composition as laws

-- src/again.rt
pub returns : goal.returns
returns c = laws.is_composed
