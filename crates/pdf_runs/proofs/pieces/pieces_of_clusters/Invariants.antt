use Rattle.std.proofs.Common.{◌≡◌, ◌++◌, drop, flat_map}
use Rattle.pdf_runs.specs.Clusters.{lists}
use Rattle.pdf_runs.specs.Pieces.{pieces_of_cluster, pieces_of_clusters}
use Rattle.pdf_runs.proofs.pieces.pieces_of_clusters.Given as goal

abbrev pub invariant-loop-cluster : goal.invariant-loop-cluster
invariant-loop-cluster l =
    l.pieces.items ++ flat_map (pieces_of_cluster l.direction l.inked) (lists (drop l.cluster-index l.clusters)) ≡ pieces_of_clusters l.direction l.inked (lists l.clusters)
