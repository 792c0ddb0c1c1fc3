use Rattle.std.proofs.Common.{◌≡◌, ◌++◌, length}
use Rattle.subset_task.specs.Making.Picked.{lacking}
use Rattle.subset_task.proofs.making.requested.lacking.Given as goal

abbrev pub invariant-loop-rest : goal.invariant-loop-rest
invariant-loop-rest l = l.found.items ++ lacking l.rest l.left ≡ lacking l.characters l.glyphs

abbrev pub decreases-loop-rest : goal.decreases-loop-rest
decreases-loop-rest l = length l.rest
