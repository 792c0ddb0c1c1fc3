use Rattle.subsetter_variation.proofs.GlyphsLaws.Turning.{is_turned}
use Rattle.subsetter_variation.proofs.laws.is_rotated.Goals as goal

pub returns : goal.returns
returns c = is_turned
