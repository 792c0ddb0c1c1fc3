use Rattle.text_metrics.proofs.Units.{above}
use Rattle.text_metrics.proofs.call.text_metrics.Goals as goal

pub each_metrics-requires : goal.each_metrics-requires
each_metrics-requires c = above _ _ _ _ _ c.in_ok-found.ensures.value

pub invariant_of-result : goal.invariant_of-result
invariant_of-result c = record { divides = above _ _ _ _ _ c.in_ok-found.ensures.value }
