use Rattle.subsetter_variation.proofs.GlyphsLaws.Turning.{is_still}
use Rattle.subsetter_variation.proofs.laws.is_zero_at_scalar_zero.Goals as goal

pub returns : goal.returns
returns c = is_still
