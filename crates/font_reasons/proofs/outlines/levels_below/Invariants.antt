use Rattle.std.proofs.Common.{◌≡◌}
use Rattle.font_reasons.specs.Outlines.{levels_below}
use Rattle.font_reasons.specs.View.{reach_view}
use Rattle.font_reasons.proofs.outlines.levels_below.Given as goal

abbrev pub invariant-loop-left : goal.invariant-loop-left
invariant-loop-left l = levels_below l.tables.glyf.now l.tables.loca.now l.tables.format l.left (reach_view l.reached) ≡ levels_below l.tables.glyf.now l.tables.loca.now l.tables.format l.levels (reach_view l.fn.known)

abbrev pub decreases-loop-left : goal.decreases-loop-left
decreases-loop-left l = l.left
