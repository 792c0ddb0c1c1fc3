use Rattle.subsetter_variable.proofs.Static.{answers_are_clean}
use Rattle.subsetter_variable.proofs.laws.answers_are_clean_at.Goals as goal

pub returns : goal.returns
returns c = answers_are_clean
