use Rattle.subsetter_variation.proofs.GlyphsLaws.StepLaws.{is_same_at_any_steps}
use Rattle.subsetter_variation.proofs.laws.is_same_at_any_steps.Goals as goal

pub returns : goal.returns
returns c = is_same_at_any_steps
