use Rattle.own_choice.proofs.Fitting.{parts_have_boxes}
use Rattle.own_choice.proofs.laws.parts_have_boxes.Goals as goal

pub returns : goal.returns
returns c = parts_have_boxes
