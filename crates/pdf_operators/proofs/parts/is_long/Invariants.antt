use Rattle.std.proofs.Common.{◌≡◌, ◌≤◌, ◌+◌, length, drop}
use Rattle.pdf_runs.specs.Clusters.{lists}
use Rattle.pdf_operators.specs.Operators.{text_of_all, units_of}
use Rattle.pdf_operators.proofs.parts.is_long.Given as goal

abbrev pub invariant-loop-cluster : goal.invariant-loop-cluster
invariant-loop-cluster l = record {
  few : l.count ≤ 16382;
  so_far : l.count + length (units_of (text_of_all (lists (drop l.cluster-index l.clusters)))) ≡ length (units_of (text_of_all (lists l.clusters)));
}
