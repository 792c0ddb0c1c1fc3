use Rattle.subsetter_variable.proofs.Static.{answers_are_one}
use Rattle.subsetter_variable.proofs.laws.answers_are_one_at.Goals as goal

pub returns : goal.returns
returns c = answers_are_one
