use Rattle.std.proofs.Common.{◌≡◌, length}
use Rattle.subset_batch.specs.Lines.{request_lines}
use Rattle.subset_batch.specs.View.{lines_view}
use Rattle.subset_task.specs.Batch.Requests.{AreNames, left_after}
use Rattle.subset_task.proofs.BatchLaws.{AreSoFar}
use Rattle.subset_task.proofs.batch.requests.requests_of.Given as goal

abbrev pub invariant-loop-rest : goal.invariant-loop-rest
invariant-loop-rest l = AreSoFar (lines_view l.rest) (request_lines l.file) l.batch.requests.items l.batch.states.items × (AreNames l.batch.requests.items l.names × (l.left ≡ left_after l.batch.requests.items))

abbrev pub decreases-loop-rest : goal.decreases-loop-rest
decreases-loop-rest l = length l.rest
