use Rattle.subsetter_cff_instance.specs.Boxes.{drawn_metric}
use Rattle.subsetter_cff_instance.proofs.MetricsLaws.{mapped_more}
use Rattle.subsetter_cff_instance.proofs.boxes.drawn_metrics.Goals as goal

pub loop-glyph-preserved : goal.loop-glyph-preserved
loop-glyph-preserved c = mapped_more (drawn_metric c.args.all.now c.args.boxes.now) c.loop-glyph.drawn.items _ c.loop-glyph.glyph _ c.loop-glyph.invariant c.drawn_metric.ensures c.in_ok-push.ensures.items
