use Rattle.std.proofs.Common.{◌≡◌, [], drop}
use Rattle.pdf_runs.proofs.NewPairs.{with_all_new}
use Rattle.pdf_runs.proofs.codes.count_new.Given as goal

abbrev pub invariant-loop-piece : goal.invariant-loop-piece
invariant-loop-piece l = with_all_new l.pairs l.new (drop l.piece-index l.pieces) ≡ with_all_new l.pairs [] l.pieces
