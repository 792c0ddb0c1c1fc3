use Rattle.std.proofs.Common.{◌≡◌, ◌++◌, drop, map}
use Rattle.text_metrics.specs.Metrics.{metrics_of}
use Rattle.text_metrics.proofs.call.each_metrics.Given as goal

abbrev pub invariant-loop-advance : goal.invariant-loop-advance
invariant-loop-advance l = l.metrics.items ++ map (metrics_of l.units) (drop l.advance-index l.advances) ≡ map (metrics_of l.units) l.advances
