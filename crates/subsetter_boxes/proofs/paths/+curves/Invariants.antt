use Rattle.std.proofs.Common.{length}
use Rattle.subsetter_boxes.proofs.paths.+curves.Given as goal

abbrev pub decreases-curves : goal.decreases-curves
decreases-curves l = length l.operands.now
