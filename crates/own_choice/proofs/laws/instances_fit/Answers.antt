use Rattle.own_choice.proofs.Moved.{instances_fit}
use Rattle.own_choice.proofs.laws.instances_fit.Goals as goal

pub returns : goal.returns
returns c = instances_fit
