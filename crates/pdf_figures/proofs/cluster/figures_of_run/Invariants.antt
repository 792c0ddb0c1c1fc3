use Rattle.std.proofs.Common.{◌≡◌, ◌++◌, drop, flat_map}
use Rattle.pdf_runs.specs.Clusters.{lists}
use Rattle.pdf_figures.specs.Figures.{figured_cluster, figured_run}
use Rattle.pdf_figures.specs.View.{figures_seen}
use Rattle.pdf_figures.proofs.cluster.figures_of_run.Given as goal

abbrev pub invariant-loop-cluster : goal.invariant-loop-cluster
invariant-loop-cluster l =
    figures_seen l.figures.items ++ flat_map (figured_cluster l.direction l.choice) (lists (drop l.cluster-index l.cluster-items)) ≡ figured_run l.direction l.choice l.items
