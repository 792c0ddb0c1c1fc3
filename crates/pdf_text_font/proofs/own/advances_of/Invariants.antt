use Rattle.std.proofs.Common.{◌≡◌, ◌++◌, drop}
use Rattle.pdf_text_font.specs.Own.{advances_of}
use Rattle.pdf_text_font.proofs.own.advances_of.Given as goal

abbrev pub invariant-loop-glyph : goal.invariant-loop-glyph
invariant-loop-glyph l = l.advances.items ++ advances_of (drop l.glyph-index l.own) ≡ advances_of l.own
