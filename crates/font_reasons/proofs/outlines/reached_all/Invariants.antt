use Rattle.std.proofs.Common.{◌≡◌, drop}
use Rattle.font_reasons.specs.Outlines.{reached_all}
use Rattle.font_reasons.proofs.outlines.reached_all.Given as goal

abbrev pub invariant-loop-glyph : goal.invariant-loop-glyph
invariant-loop-glyph l = reached_all l.seen (drop l.glyph-index l.glyphs) ≡ reached_all l.fn.known l.glyphs
