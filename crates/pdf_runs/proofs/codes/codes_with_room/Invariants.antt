use Rattle.std.proofs.Common.{◌≡◌, ◌++◌, map, take, drop, Some}
use Rattle.subsetter_base.specs.Remap.{index_by}
use Rattle.pdf_runs.specs.declared.pieces.Piece.{Piece}
use Rattle.pdf_runs.specs.Codes.{KeepsCodes, pair_of, same, with_pairs}
use Rattle.pdf_runs.proofs.codes.codes_with_room.Given as goal

abbrev pub invariant-loop-piece : goal.invariant-loop-piece
invariant-loop-piece l = record {
  all : with_pairs l.pairs (drop l.piece-index l.pieces) ≡ with_pairs l.fn.pairs l.pieces;
  first : l.pairs ≡ with_pairs l.fn.pairs (take l.piece-index l.pieces);
  stay : KeepsCodes l.fn.pairs l.pairs;
  so_far : map Some l.codes.items ++ map (λ (p : Piece). index_by same (with_pairs l.fn.pairs l.pieces) (pair_of p)) (drop l.piece-index l.pieces) ≡ map (λ (p : Piece). index_by same (with_pairs l.fn.pairs l.pieces) (pair_of p)) l.pieces;
}
