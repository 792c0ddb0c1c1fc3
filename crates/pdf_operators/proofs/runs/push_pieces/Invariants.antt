use Rattle.std.proofs.Common.{◌≡◌, ◌++◌, drop}
use Rattle.pdf_operators.specs.Operators.{acts_of}
use Rattle.pdf_operators.specs.Places.{are_near, laid, stop_after}
use Rattle.pdf_operators.proofs.runs.push_pieces.Given as goal

abbrev pub invariant-loop-piece : goal.invariant-loop-piece
invariant-loop-piece l = record {
  acts : acts_of l.operations.items ++ laid l.font l.direction l.following (drop l.piece-index l.pieces) ≡ acts_of l.fn.operations.items ++ laid l.font l.direction l.fn.stop l.pieces;
  stop : stop_after l.font l.direction l.following (drop l.piece-index l.pieces) ≡ stop_after l.font l.direction l.fn.stop l.pieces;
  near : are_near l.font l.direction l.following (drop l.piece-index l.pieces) ≡ are_near l.font l.direction l.fn.stop l.pieces;
}
