use Rattle.std.proofs.Common.{◌≡◌, ◌≤◌, drop, max}
use Rattle.pdf_text.specs.View.{pairs_view}
use Rattle.pdf_codes.specs.Cmaps.Leading.{limit}
use Rattle.pdf_codes.proofs.cmaps.leading.limit_of.Given as goal

abbrev pub invariant-loop-pair : goal.invariant-loop-pair
invariant-loop-pair l = record {
  so_far : max l.limit (limit (pairs_view (drop l.pair-index l.pairs))) ≡ limit (pairs_view l.pairs);
  small : l.limit ≤ 65536;
}
