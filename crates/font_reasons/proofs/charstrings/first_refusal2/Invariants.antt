use Rattle.std.proofs.Common.{◌≡◌}
use Rattle.font_reasons.specs.Charstrings.{cff2_tag, first_refusal, run2}
use Rattle.font_reasons.specs.View.{opened2_of}
use Rattle.font_reasons.proofs.charstrings.first_refusal2.Given as goal

abbrev pub invariant-loop-glyph : goal.invariant-loop-glyph
invariant-loop-glyph l = first_refusal cff2_tag (run2 (opened2_of l.opened) l.limits.tokens l.limits.depth) l.glyph-iterator ≡ first_refusal cff2_tag (run2 (opened2_of l.opened) l.limits.tokens l.limits.depth) l.mapper
