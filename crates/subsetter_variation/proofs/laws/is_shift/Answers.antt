use Rattle.subsetter_variation.proofs.GlyphsLaws.Turning.{is_shift}
use Rattle.subsetter_variation.proofs.laws.is_shift.Goals as goal

pub returns : goal.returns
returns c = is_shift
