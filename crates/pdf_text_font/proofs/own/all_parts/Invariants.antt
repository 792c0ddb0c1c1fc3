use Rattle.std.proofs.Common.{◌≡◌, ◌++◌, drop}
use Rattle.pdf_text_font.specs.Own.{all_parts}
use Rattle.pdf_text_font.proofs.own.all_parts.Given as goal

abbrev pub invariant-loop-glyph : goal.invariant-loop-glyph
invariant-loop-glyph l = l.parts.items ++ all_parts (drop l.glyph-index l.own) ≡ all_parts l.own
