use Rattle.std.proofs.Common.{length}
use Rattle.subsetter_boxes.proofs.paths.+curves_line.Given as goal

abbrev pub decreases-curves_line : goal.decreases-curves_line
decreases-curves_line l = length l.operands.now
