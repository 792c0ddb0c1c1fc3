use Rattle.std.proofs.Common.{◌≡◌}
use Rattle.font_reasons.specs.Outlines.{first_wrong}
use Rattle.font_reasons.proofs.outlines.first_wrong.Given as goal

abbrev pub invariant-loop-glyph : goal.invariant-loop-glyph
invariant-loop-glyph l = first_wrong l.glyf l.loca l.format l.glyph-iterator ≡ first_wrong l.glyf l.loca l.format l.mapper
