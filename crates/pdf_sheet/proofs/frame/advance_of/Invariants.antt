use Rattle.std.proofs.Common.{◌≡◌, ◌≤◌, ◌+◌, drop}
use Rattle.std.specs.Prelude.{min}
use Rattle.pdf_sheet.specs.Content.{advance_of}
use Rattle.pdf_sheet.proofs.frame.advance_of.Given as goal

abbrev pub invariant-loop-glyph : goal.invariant-loop-glyph
invariant-loop-glyph l = record {
  small : l.advance ≤ 398000;
  so_far : min (l.advance + advance_of (drop l.glyph-index l.glyphs)) 398000 ≡ min (advance_of l.glyphs) 398000;
}
