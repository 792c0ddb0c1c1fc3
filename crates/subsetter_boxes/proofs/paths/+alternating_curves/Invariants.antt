use Rattle.std.proofs.Common.{length}
use Rattle.subsetter_boxes.proofs.paths.+alternating_curves.Given as goal

abbrev pub decreases-alternating_curves : goal.decreases-alternating_curves
decreases-alternating_curves l = length l.operands.now
