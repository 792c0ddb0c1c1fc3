use Rattle.subsetter_instance.proofs.FileLaws.Instance.{is_instance}
use Rattle.subsetter_instance.proofs.laws.is_read_afresh.Goals as goal

pub returns : goal.returns
returns c = is_instance
