use Rattle.std.proofs.Common.{◌≡◌, ◌++◌, drop}
use Rattle.std.specs.Prelude.{All}
use Rattle.pdf_text.specs.Cmaps.Encoding.{IsPair}
use Rattle.pdf_text.specs.View.{pairs_view}
use Rattle.pdf_codes.specs.Cmaps.Leading.{table_pairs}
use Rattle.pdf_codes.proofs.cmaps.leading.pairs_in.Given as goal

abbrev pub invariant-loop-place : goal.invariant-loop-place
invariant-loop-place l = record {
  so_far : pairs_view l.pairs.items ++ table_pairs l.place (drop l.place l.cids) ≡ table_pairs 0 l.cids;
  are_pairs : All IsPair (pairs_view l.pairs.items);
}
