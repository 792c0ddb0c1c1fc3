use Rattle.subsetter_instance.proofs.SameLaws.Answer.{answers_are_one}
use Rattle.subsetter_instance.proofs.laws.answers_are_one.Goals as goal

pub returns : goal.returns
returns c = answers_are_one
