use Rattle.subsetter_cff.proofs.write.again.same_char_strings.Goals as goal
use Rattle.subsetter_cff.proofs.WriteLaws.AgainLaws.Composition as laws

-- src/again.rt
pub returns : goal.returns
returns c = laws.keeps_char_strings
