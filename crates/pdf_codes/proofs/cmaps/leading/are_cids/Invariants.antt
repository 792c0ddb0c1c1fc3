use Rattle.std.proofs.Common.{◌≡◌, drop}
use Rattle.pdf_text.specs.View.{pairs_view}
use Rattle.pdf_codes.specs.Cmaps.Leading.{are_cids}
use Rattle.pdf_codes.proofs.cmaps.leading.are_cids.Given as goal

abbrev pub invariant-loop-pair : goal.invariant-loop-pair
invariant-loop-pair l = are_cids (pairs_view (drop l.pair-index l.pairs)) ≡ are_cids (pairs_view l.pairs)
