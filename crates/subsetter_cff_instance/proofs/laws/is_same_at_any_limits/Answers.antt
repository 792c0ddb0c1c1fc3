use Rattle.subsetter_cff_instance.proofs.SameLaws.{one_file}
use Rattle.subsetter_cff_instance.proofs.laws.is_same_at_any_limits.Goals as goal

pub returns : goal.returns
returns c = one_file
