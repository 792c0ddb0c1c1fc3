use Rattle.std.proofs.Common.{◌≡◌, ◌-◌, ◌∙◌, suc, arith}
use Rattle.font_reasons.specs.View.{reach_view}
use Rattle.font_reasons.proofs.Components.{last_level, one_deeper}
use Rattle.font_reasons.proofs.outlines.levels_below.Goals as goal

pub loop-left-preserved : goal.loop-left-preserved
loop-left-preserved c =
    let next : c.loop-left.left ≡ suc (c.loop-left.left - 1) = omega arith in
    one_deeper c.args.tables.glyf.now c.args.tables.loca.now c.args.tables.format c.loop-left.left (c.loop-left.left - 1) (reach_view c.loop-left.reached) (reach_view c.in_ok-reached.reached) c.deref.result.now _ c.in_ok-new.field-0 next
    (c.deref.ensures.value ∙ c.in_ok-level.ensures) c.in_ok-new.ensures.ok c.in_ok-reached.ensures.ok c.loop-left.invariant

pub returns-clause-ok : goal.returns-clause-ok
returns-clause-ok c = last_level c.args.tables.glyf.now c.args.tables.loca.now c.args.tables.format c.loop-left.left (reach_view c.loop-left.reached) c.in_ok-seen_from.field-0.items _ c.loop-left-test.false c.in_ok-seen_from.ensures c.loop-left.invariant
