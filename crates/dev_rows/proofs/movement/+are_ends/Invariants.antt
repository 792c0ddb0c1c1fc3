use Rattle.std.proofs.Common.{length}
use Rattle.dev_rows.proofs.movement.+are_ends.Given as goal

abbrev pub decreases-are_ends : goal.decreases-are_ends
decreases-are_ends l = length l.ends.now
