use Rattle.std.proofs.Common.{◌≡◌, ◌++◌, length}
use Rattle.subset_task.specs.Making.Picked.{texts_of}
use Rattle.subset_task.proofs.making.requested.texts_of.Given as goal

abbrev pub invariant-loop-rest : goal.invariant-loop-rest
invariant-loop-rest l = l.texts.items ++ texts_of l.text l.rest ≡ texts_of l.text l.entries

abbrev pub decreases-loop-rest : goal.decreases-loop-rest
decreases-loop-rest l = length l.rest
