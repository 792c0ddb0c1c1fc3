use Rattle.std.proofs.Common.{◌≡◌, drop}
use Rattle.font_reasons.specs.Varying.{first_advance}
use Rattle.font_reasons.proofs.varying.first_advance.Given as goal

abbrev pub invariant-loop-glyph : goal.invariant-loop-glyph
invariant-loop-glyph l = first_advance l.hvar l.at (drop l.glyph-index l.glyphs) ≡ first_advance l.hvar l.at l.glyphs
