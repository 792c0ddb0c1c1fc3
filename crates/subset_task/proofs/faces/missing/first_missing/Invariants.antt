use Rattle.std.proofs.Common.{◌≡◌, length}
use Rattle.subset_task.specs.Faces.Missing.{missing_past, first_missing}
use Rattle.subset_task.proofs.faces.missing.first_missing.Given as goal

abbrev pub invariant-loop-rest : goal.invariant-loop-rest
invariant-loop-rest l = missing_past l.found.items l.rest ≡ first_missing l.characters

abbrev pub decreases-loop-rest : goal.decreases-loop-rest
decreases-loop-rest l = length l.rest
