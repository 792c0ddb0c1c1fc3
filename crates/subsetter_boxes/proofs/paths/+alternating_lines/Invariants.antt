use Rattle.std.proofs.Common.{length}
use Rattle.subsetter_boxes.proofs.paths.+alternating_lines.Given as goal

abbrev pub decreases-alternating_lines : goal.decreases-alternating_lines
decreases-alternating_lines l = length l.operands.now
