use Rattle.std.proofs.Common.{◌≡◌, ◌++◌, length}
use Rattle.pdf_runs.specs.Clusters.{lists}
use Rattle.pdf_runs.specs.Words.{groups, words}
use Rattle.pdf_runs.proofs.words.words_of_run.Given as goal

abbrev pub invariant-loop-rest : goal.invariant-loop-rest
invariant-loop-rest l = groups l.found.items ++ words (lists l.rest) ≡ words (lists l.clusters)

abbrev pub decreases-loop-rest : goal.decreases-loop-rest
decreases-loop-rest l = length l.rest
