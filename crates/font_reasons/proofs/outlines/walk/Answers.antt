use Rattle.std.proofs.Common.{◌≡◌, ◌-◌, ◌∙◌, ℕ, List, suc, ap, true, arith}
use Rattle.font_reasons.specs.Outlines.{walked}
use Rattle.font_reasons.specs.View.{component_view}
use Rattle.font_reasons.proofs.Components.{after, next_walked}
use Rattle.font_reasons.proofs.outlines.walk.Goals as goal

pub loop-left-preserved : goal.loop-left-preserved
loop-left-preserved c =
    let next : c.loop-left.left ≡ suc (c.loop-left.left - 1) = omega arith in
    ap (λ (l : List ℕ). after l (walked (c.loop-left.left - 1) c.in-Some.component.after.now)) c.in_ok-push.ensures.items
    ∙ next_walked c.loop-left.left (c.loop-left.left - 1) c.loop-left.glyphs.items c.loop-left.rest.now (component_view c.in-Some.component) true _ next c.in-Some.ensures c.if-not-has_more.ensures c.loop-left.invariant
