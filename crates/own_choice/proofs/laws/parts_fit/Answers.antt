use Rattle.own_choice.proofs.Fitting.{parts_fit}
use Rattle.own_choice.proofs.laws.parts_fit.Goals as goal

pub returns : goal.returns
returns c = parts_fit
