use Rattle.std.proofs.Common.{◌≡◌, None, sym, ◌∙◌}
use Rattle.cmap.specs.Segments.{end_code}
use Rattle.cmap.proofs.Steps.{segments_none, segments_end}
use Rattle.cmap.proofs.IndexSteps.{running_start, running_more, running_ends}
use Rattle.cmap.proofs.index.greatest_ends.Goals as goal

pub loop-segment-init : goal.loop-segment-init
loop-segment-init c = rw c.in_ok-tops.ensures.items (running_start c.args.table.now c.args.count)

pub loop-segment-preserved : goal.loop-segment-preserved
loop-segment-preserved c =
    rw (c.in_ok-push.ensures.items, c.max-top.ensures) (running_more c.args.table.now c.args.count c.loop-segment.segment c.loop-segment.tops.items c.loop-segment.top c.in-Some.end c.loop-segment.invariant c.loop-segment-test.true (sym c.in-Some.ensures))

pub returns-in_default : goal.returns-in_default
returns-in_default c =
    let cut : end_code c.args.table.now c.loop-segment.segment ≡ None = sym c.number_at.ensures ∙ c.in_default.is in
    running_ends c.args.table.now c.args.count c.loop-segment.segment c.loop-segment.tops.items c.loop-segment.top c.loop-segment.invariant c.loop-segment.auto.segment-end (λ x. segments_none c.args.table.now c.args.count c.loop-segment.segment x cut c.loop-segment-test.true)

pub returns : goal.returns
returns c =
    running_ends c.args.table.now c.args.count c.loop-segment.segment c.loop-segment.tops.items c.loop-segment.top c.loop-segment.invariant c.loop-segment.auto.segment-end (λ x. segments_end c.args.table.now c.args.count c.loop-segment.segment x c.loop-segment-test.false)
