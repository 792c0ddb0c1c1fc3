use Rattle.own_choice.proofs.Moved.{drawn_are_small}
use Rattle.own_choice.proofs.laws.drawn_are_small.Goals as goal

pub returns : goal.returns
returns c = drawn_are_small
