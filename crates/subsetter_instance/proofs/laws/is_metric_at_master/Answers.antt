use Rattle.subsetter_instance.proofs.MetricLaws.{is_metric_at_master}
use Rattle.subsetter_instance.proofs.laws.is_metric_at_master.Goals as goal

pub returns : goal.returns
returns c = is_metric_at_master
