use Rattle.std.proofs.Common.{◌≡◌}
use Rattle.font_reasons.specs.Outlines.{walked}
use Rattle.font_reasons.proofs.Components.{after}
use Rattle.font_reasons.proofs.outlines.walk.Given as goal

abbrev pub invariant-loop-left : goal.invariant-loop-left
invariant-loop-left l = after l.glyphs.items (walked l.left l.rest) ≡ walked l.most l.components

abbrev pub decreases-loop-left : goal.decreases-loop-left
decreases-loop-left l = l.left
