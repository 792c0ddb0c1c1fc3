use Rattle.std.proofs.Common.{◌≡◌, ◌++◌, length}
use Rattle.pdf_runs.specs.Clusters.{lists}
use Rattle.pdf_runs.specs.Words.{groups}
use Rattle.pdf_operators.specs.Runs.{singles}
use Rattle.pdf_operators.proofs.parts.push_singles.Given as goal

abbrev pub invariant-loop-rest : goal.invariant-loop-rest
invariant-loop-rest l = groups l.parts.items ++ singles (lists l.rest) ≡ groups l.fn.parts.items ++ singles (lists l.clusters)

abbrev pub decreases-loop-rest : goal.decreases-loop-rest
decreases-loop-rest l = length l.rest
