use Rattle.std.proofs.Common.{◌≡◌, ◌++◌, drop, map}
use Rattle.pdf_text_font.specs.Own.{added_seen, own_by}
use Rattle.pdf_text_font.proofs.own.own_by.Given as goal

abbrev pub invariant-loop-glyph : goal.invariant-loop-glyph
invariant-loop-glyph l = map added_seen l.glyphs.items ++ own_by (drop l.glyph-index l.own) l.rest ≡ own_by l.own l.parts
