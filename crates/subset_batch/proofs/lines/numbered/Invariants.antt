use Rattle.std.proofs.Common.{◌≤◌, length, map}
use Rattle.subset_batch.specs.Lines.{numbered}
use Rattle.subset_batch.specs.View.{lines_view}
use Rattle.subset_batch.proofs.Appends.{Reaches}
use Rattle.subset_batch.proofs.lines.numbered.Given as goal

abbrev pub invariant-loop-rest : goal.invariant-loop-rest
invariant-loop-rest l = Reaches (lines_view l.lines.items) (numbered (length l.parts) (map (λ part. part.now) l.rest)) (numbered (length l.parts) (map (λ part. part.now) l.parts)) × (length l.rest ≤ length l.parts)

abbrev pub decreases-loop-rest : goal.decreases-loop-rest
decreases-loop-rest l = length l.rest
