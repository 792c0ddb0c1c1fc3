use Rattle.std.proofs.Common.{length}
use Rattle.subsetter_boxes.proofs.paths.+vertical_curves.Given as goal

abbrev pub decreases-vertical_curves : goal.decreases-vertical_curves
decreases-vertical_curves l = length l.operands.now
