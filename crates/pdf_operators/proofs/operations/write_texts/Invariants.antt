use Rattle.std.proofs.Common.{◌≡◌, ◌<◌, ◌++◌, drop}
use Rattle.std.specs.Prelude.{All}
use Rattle.pdf_runs.specs.Clusters.{lists}
use Rattle.pdf_text.specs.Cmaps.Cmap.{words}
use Rattle.pdf_operators.specs.Operators.{text_of_all, units_of}
use Rattle.pdf_operators.proofs.operations.write_texts.Given as goal

abbrev pub invariant-loop-cluster : goal.invariant-loop-cluster
invariant-loop-cluster l = record {
  so_far : l.text.items ++ words (units_of (text_of_all (lists (drop l.cluster-index l.clusters)))) ≡ l.fn.text.items ++ words (units_of (text_of_all (lists l.clusters)));
  seen : All (λ c. c < 1114112) (text_of_all (lists (drop l.cluster-index l.clusters))) → All (λ c. c < 1114112) (text_of_all (lists l.clusters));
}
