use Rattle.subsetter_variation.proofs.Masters.{is_free_of_place}
use Rattle.subsetter_variation.proofs.laws.is_free_of_position.Goals as goal

pub returns : goal.returns
returns c = is_free_of_place
