use Rattle.std.proofs.Common.{◌≡◌, ◌++◌, drop}
use Rattle.pdf_text.specs.View.{pairs_view}
use Rattle.pdf_codes.specs.Cmaps.Leading.{pairs_with, zipped}
use Rattle.pdf_codes.proofs.cmaps.leading.pairs_with.Given as goal

abbrev pub invariant-loop-place : goal.invariant-loop-place
invariant-loop-place l = pairs_view l.pairs.items ++ zipped (drop l.place l.codes) (drop l.place l.cids) ≡ pairs_with l.codes l.cids
