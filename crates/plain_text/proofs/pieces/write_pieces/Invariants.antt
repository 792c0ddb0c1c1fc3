use Rattle.std.proofs.Common.{drop}
use Rattle.plain_text.proofs.Joined.{joined}
use Rattle.plain_text.proofs.Written.{Reaches}
use Rattle.plain_text.proofs.pieces.write_pieces.Given as goal

abbrev pub invariant-loop-piece : goal.invariant-loop-piece
invariant-loop-piece g l = Reaches (g.W.Write.contents l.fn.out) (g.W.Write.contents l.out) (joined (drop l.piece-index l.pieces)) (joined l.pieces)
