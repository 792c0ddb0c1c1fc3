use Rattle.std.proofs.Common.{length}
use Rattle.subsetter_boxes.proofs.paths.+lines.Given as goal

abbrev pub decreases-lines : goal.decreases-lines
decreases-lines l = length l.operands.now
