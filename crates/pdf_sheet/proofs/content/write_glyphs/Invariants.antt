use Rattle.std.proofs.Common.{◌≡◌, ◌++◌, drop}
use Rattle.pdf_sheet.specs.Content.{glyphs_text}
use Rattle.pdf_sheet.proofs.content.write_glyphs.Given as goal

abbrev pub invariant-loop-glyph : goal.invariant-loop-glyph
invariant-loop-glyph l = record {
  offset : l.place ≡ l.glyph-index;
  so_far : l.text.items ++ glyphs_text l.frame l.place (drop l.glyph-index l.glyphs) ≡ l.fn.text.items ++ glyphs_text l.frame 0 l.glyphs;
}
