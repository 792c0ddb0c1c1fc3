use Rattle.subsetter_instance.proofs.MetricLaws.{is_advance_at_default}
use Rattle.subsetter_instance.proofs.laws.is_advance_at_default.Goals as goal

pub returns : goal.returns
returns c = is_advance_at_default
