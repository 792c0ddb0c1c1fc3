use Rattle.std.proofs.Common.{◌≡◌, ◌++◌, drop}
use Rattle.subsetter_cff_instance.specs.Metrics.{advances}
use Rattle.subsetter_cff_instance.proofs.metrics.advances.Given as goal

abbrev pub invariant-loop-metric : goal.invariant-loop-metric
invariant-loop-metric l = l.advances.items ++ advances (drop l.metric-index l.all) ≡ advances l.all
