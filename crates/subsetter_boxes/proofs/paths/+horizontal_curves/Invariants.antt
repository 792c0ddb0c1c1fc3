use Rattle.std.proofs.Common.{length}
use Rattle.subsetter_boxes.proofs.paths.+horizontal_curves.Given as goal

abbrev pub decreases-horizontal_curves : goal.decreases-horizontal_curves
decreases-horizontal_curves l = length l.operands.now
