use Rattle.std.proofs.Common.{◌≡◌, length}
use Rattle.subset_batch.specs.Members.{has_name}
use Rattle.subset_batch.specs.View.{members_view}
use Rattle.subset_batch.proofs.members.has_name.Given as goal

abbrev pub invariant-loop-rest : goal.invariant-loop-rest
invariant-loop-rest l = has_name l.name (members_view l.rest) ≡ has_name l.name (members_view l.members)

abbrev pub decreases-loop-rest : goal.decreases-loop-rest
decreases-loop-rest l = length l.rest
