use Rattle.std.proofs.Common.{◌≡◌, drop}
use Rattle.std.specs.List.{list_any}
use Rattle.pdf_operators.specs.Runs.{is_moved}
use Rattle.pdf_operators.proofs.parts.any_moved.Given as goal

abbrev pub invariant-loop-piece : goal.invariant-loop-piece
invariant-loop-piece l = list_any is_moved (drop l.piece-index l.pieces) ≡ list_any is_moved l.pieces
