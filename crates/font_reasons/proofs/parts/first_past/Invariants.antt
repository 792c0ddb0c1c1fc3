use Rattle.std.proofs.Common.{◌≡◌, drop}
use Rattle.font_reasons.specs.Parts.{first_past}
use Rattle.font_reasons.proofs.parts.first_past.Given as goal

abbrev pub invariant-loop-glyph : goal.invariant-loop-glyph
invariant-loop-glyph l = first_past l.count (drop l.glyph-index l.glyphs) ≡ first_past l.count l.glyphs
