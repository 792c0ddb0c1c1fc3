use Rattle.std.proofs.Common.{◌≡◌}
use Rattle.font_reasons.specs.Varying.{first_unvaried}
use Rattle.font_reasons.specs.View.{tables_view}
use Rattle.font_reasons.proofs.varying.first_unvaried.Given as goal

abbrev pub invariant-loop-glyph : goal.invariant-loop-glyph
invariant-loop-glyph l = first_unvaried (tables_view l.tables) l.gvar l.at l.steps l.glyph-iterator ≡ first_unvaried (tables_view l.tables) l.gvar l.at l.steps l.mapper
