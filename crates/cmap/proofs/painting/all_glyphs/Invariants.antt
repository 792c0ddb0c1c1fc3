use Rattle.cmap.specs.Painting.{IsPainted}
use Rattle.cmap.proofs.painting.all_glyphs.Given as goal

abbrev pub invariant-loop-place : goal.invariant-loop-place
invariant-loop-place l = IsPainted l.table l.count l.place l.next.items l.glyphs.items
