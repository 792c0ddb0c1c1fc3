use Rattle.std.proofs.Common.{◌≡◌, ◌++◌, drop, map}
use Rattle.text_metrics.specs.Columns.{metrics_of}
use Rattle.text_metrics.proofs.columns.each_metrics.Given as goal

abbrev pub invariant-loop-column : goal.invariant-loop-column
invariant-loop-column l = l.metrics.items ++ map metrics_of (drop l.column-index l.columns) ≡ map metrics_of l.columns
