use Rattle.own_glyphs.proofs.Steps.{metrics_step}
use Rattle.own_glyphs.proofs.adding.add_metrics.Goals as goal

pub loop-k-preserved : goal.loop-k-preserved
loop-k-preserved c =
    let i = c.loop-k.invariant in
    let m = c.metric.ensures in
    let next = metrics_step c.args.metrics.now.items c.loop-k.metrics.items c.push.new.self.items c.args.own.now c.args.boxes.now c.loop-k.k _ _ c.metric.result c.loop-k-test.true c.requires m.advance m.lsb m.small c.in_ok-push.ensures.items i.written i.small in
    record { written = next.0; small = next.1 }
