use Rattle.subsetter_variation.proofs.PackingLaws.Ascending.{are_ascending}
use Rattle.subsetter_variation.proofs.laws.are_ascending.Goals as goal

pub returns : goal.returns
returns c = are_ascending
