use Rattle.std.proofs.Common.{◌≡◌}
use Rattle.font_reasons.specs.Outlines.{reached_below}
use Rattle.font_reasons.specs.View.{reach_view}
use Rattle.font_reasons.proofs.outlines.reached_below.Given as goal

abbrev pub invariant-loop-left : goal.invariant-loop-left
invariant-loop-left l = reached_below l.tables.glyf.now l.tables.loca.now l.tables.format l.left l.from (reach_view l.reached) ≡ reached_below l.tables.glyf.now l.tables.loca.now l.tables.format l.levels 0 (reach_view l.fn.known)

abbrev pub decreases-loop-left : goal.decreases-loop-left
decreases-loop-left l = l.left
