use Rattle.std.proofs.Common.{◌≡◌, ◌++◌, drop}
use Rattle.pdf_text_font.specs.Own.{widths_of}
use Rattle.pdf_text_font.proofs.own.widths_of.Given as goal

abbrev pub invariant-loop-glyph : goal.invariant-loop-glyph
invariant-loop-glyph l = l.widths.items ++ widths_of l.units (drop l.glyph-index l.own) ≡ widths_of l.units l.own
