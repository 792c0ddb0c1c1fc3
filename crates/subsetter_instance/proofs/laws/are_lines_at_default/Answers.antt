use Rattle.subsetter_instance.proofs.MetricLaws.{are_lines_at_default}
use Rattle.subsetter_instance.proofs.laws.are_lines_at_default.Goals as goal

pub returns : goal.returns
returns c = are_lines_at_default
