use Rattle.std.proofs.Common.{◌≡◌, drop}
use Rattle.font_reasons.specs.Parts.{first_without_metric}
use Rattle.font_reasons.proofs.parts.first_without_metric.Given as goal

abbrev pub invariant-loop-glyph : goal.invariant-loop-glyph
invariant-loop-glyph l = first_without_metric l.hmtx l.count (drop l.glyph-index l.glyphs) ≡ first_without_metric l.hmtx l.count l.glyphs
