use Rattle.std.proofs.Common.{◌≡◌, ◌+◌, drop}
use Rattle.std.specs.List.{position_or_len}
use Rattle.pdf_runs.specs.Clusters.{lists}
use Rattle.pdf_runs.specs.Words.{is_blank}
use Rattle.pdf_runs.proofs.words.word_rest.Given as goal

abbrev pub invariant-loop-cluster : goal.invariant-loop-cluster
invariant-loop-cluster l = record {
  at : l.count ≡ l.cluster-index;
  rest : l.count + position_or_len is_blank (lists (drop l.cluster-index l.clusters)) ≡ position_or_len is_blank (lists l.clusters);
}
