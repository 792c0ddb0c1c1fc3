use Rattle.subsetter_cff_instance.proofs.SameLaws.{answers_are_one}
use Rattle.subsetter_cff_instance.proofs.laws.cff_answers_are_one.Goals as goal

pub returns : goal.returns
returns c = answers_are_one
