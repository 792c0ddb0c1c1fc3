use Rattle.std.proofs.Common.{◌≡◌, ◌-◌, ◌∙◌, suc, ap, arith}
use Rattle.font_reasons.specs.Outlines.{reached_below}
use Rattle.font_reasons.specs.View.{reach_view}
use Rattle.font_reasons.proofs.Components.{one_below}
use Rattle.font_reasons.proofs.outlines.reached_below.Goals as goal

pub loop-left-preserved : goal.loop-left-preserved
loop-left-preserved c =
    let next : c.loop-left.left ≡ suc (c.loop-left.left - 1) = omega arith in
    ap (λ m. reached_below c.args.tables.glyf.now c.args.tables.loca.now c.args.tables.format (c.loop-left.left - 1) m (reach_view c.in_ok-reached.reached)) (c.from-from.ensures ∙ c.num_gids.ensures.count)
    ∙ one_below c.args.tables.glyf.now c.args.tables.loca.now c.args.tables.format c.loop-left.left (c.loop-left.left - 1) (reach_view c.loop-left.reached) (reach_view c.in_ok-reached.reached) c.deref.result.now _ c.loop-left.from next
    (c.deref.ensures.value ∙ c.in_ok-level.ensures) c.in_ok-reached.ensures.ok c.loop-left.invariant
