use Rattle.std.proofs.Common.{◌≡◌, drop}
use Rattle.std.specs.List.{list_any}
use Rattle.pdf_operators.specs.Runs.{is_unsaid}
use Rattle.pdf_operators.proofs.parts.has_unsaid.Given as goal

abbrev pub invariant-loop-piece : goal.invariant-loop-piece
invariant-loop-piece l = list_any is_unsaid (drop l.piece-index l.pieces) ≡ list_any is_unsaid l.pieces
