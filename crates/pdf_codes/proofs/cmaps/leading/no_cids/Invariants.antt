use Rattle.std.proofs.Common.{◌≡◌, replicate, None}
use Rattle.pdf_codes.proofs.cmaps.leading.no_cids.Given as goal

abbrev pub invariant-loop-place : goal.invariant-loop-place
invariant-loop-place l = l.cids.items ≡ replicate l.place None
