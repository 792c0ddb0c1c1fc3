use Rattle.std.proofs.Common.{◌≡◌, replicate, None}
use Rattle.pdf_glyphs.proofs.origins.no_origins.Given as goal

abbrev pub invariant-loop-index : goal.invariant-loop-index
invariant-loop-index l = l.origins.items ≡ replicate l.index None
