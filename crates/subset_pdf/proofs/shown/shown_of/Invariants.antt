use Rattle.std.proofs.Common.{◌≡◌, ◌++◌, drop, map}
use Rattle.subset_pdf.specs.Shown.{entries_of, entry_of}
use Rattle.subset_pdf.proofs.shown.shown_of.Given as goal

abbrev pub invariant-loop-glyph : goal.invariant-loop-glyph
invariant-loop-glyph l = map entry_of l.shown.items ++ entries_of l.rest l.left (drop l.glyph-index l.glyphs) ≡ entries_of l.text l.lengths l.glyphs
