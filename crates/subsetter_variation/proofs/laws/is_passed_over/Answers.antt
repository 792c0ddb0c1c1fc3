use Rattle.subsetter_variation.proofs.GlyphsLaws.StepLaws.{is_passed_over}
use Rattle.subsetter_variation.proofs.laws.is_passed_over.Goals as goal

pub returns : goal.returns
returns c = is_passed_over
