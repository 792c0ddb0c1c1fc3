use Rattle.subsetter_instance.proofs.MetricLaws.{is_metric_at_default}
use Rattle.subsetter_instance.proofs.laws.is_metric_at_default.Goals as goal

pub returns : goal.returns
returns c = is_metric_at_default
