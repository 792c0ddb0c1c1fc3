use Rattle.std.proofs.Common.{length}
use Rattle.glyph_kinds.proofs.call.+bits.Given as goal

abbrev pub decreases-bits : goal.decreases-bits
decreases-bits l = length l.marks.now
