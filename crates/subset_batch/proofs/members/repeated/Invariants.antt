use Rattle.std.proofs.Common.{◌≡◌, length}
use Rattle.subset_batch.specs.Members.{repeated}
use Rattle.subset_batch.specs.View.{members_view}
use Rattle.subset_batch.proofs.members.repeated.Given as goal

abbrev pub invariant-loop-rest : goal.invariant-loop-rest
invariant-loop-rest l = repeated (members_view l.rest) ≡ repeated (members_view l.members)

abbrev pub decreases-loop-rest : goal.decreases-loop-rest
decreases-loop-rest l = length l.rest
