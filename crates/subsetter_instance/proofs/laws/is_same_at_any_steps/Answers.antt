use Rattle.subsetter_instance.proofs.SameLaws.Answer.{one_file}
use Rattle.subsetter_instance.proofs.laws.is_same_at_any_steps.Goals as goal

pub returns : goal.returns
returns c = one_file
