use Rattle.std.proofs.Common.{◌≡◌, ◌++◌, drop}
use Rattle.pdf_runs.specs.Shaped.{are_starts, places}
use Rattle.pdf_runs.proofs.shaped.places_in.Given as goal

abbrev pub invariant-loop-glyph : goal.invariant-loop-glyph
invariant-loop-glyph l = record {
  so_far : l.found.items ++ places l.starts (drop l.glyph-index l.shaped) ≡ places l.starts l.shaped;
  valid : are_starts l.starts (drop l.glyph-index l.shaped) ≡ are_starts l.starts l.shaped;
}
