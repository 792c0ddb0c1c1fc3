use Rattle.std.proofs.Common.{length}
use Rattle.subsetter_boxes.proofs.paths.+lines_curve.Given as goal

abbrev pub decreases-lines_curve : goal.decreases-lines_curve
decreases-lines_curve l = length l.operands.now
