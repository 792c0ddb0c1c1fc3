use Rattle.std.proofs.Common.{◌≡◌, ◌++◌, length, map}
use Rattle.subset_task.specs.Chosen.{kept_of, kept_by_each}
use Rattle.subset_task.proofs.run.request.each_requested.Given as goal

abbrev pub invariant-loop-rest : goal.invariant-loop-rest
invariant-loop-rest l = map kept_of l.requested.items ++ kept_by_each l.rest l.left ≡ kept_by_each l.glyphs l.lists

abbrev pub decreases-loop-rest : goal.decreases-loop-rest
decreases-loop-rest l = length l.rest
