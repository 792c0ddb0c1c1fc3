use Rattle.subsetter_cff_instance.proofs.FileLaws.Instance.{is_cff_instance}
use Rattle.subsetter_cff_instance.proofs.laws.is_cff_read_afresh.Goals as goal

pub returns : goal.returns
returns c = is_cff_instance
