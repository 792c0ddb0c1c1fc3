use Rattle.std.proofs.Common.{◌≡◌, ◌++◌, length}
use Rattle.pdf_runs.specs.Clusters.{clusters, lists}
use Rattle.pdf_runs.proofs.clusters.clusters_of_run.Given as goal

abbrev pub invariant-loop-rest : goal.invariant-loop-rest
invariant-loop-rest l = lists l.found.items ++ clusters l.rest ≡ clusters l.items

abbrev pub decreases-loop-rest : goal.decreases-loop-rest
decreases-loop-rest l = length l.rest
