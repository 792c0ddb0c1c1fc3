use Rattle.subsetter_variation.proofs.GlyphsLaws.Lying.{lies_between}
use Rattle.subsetter_variation.proofs.laws.is_between_neighbours.Goals as goal

pub returns : goal.returns
returns c = lies_between
