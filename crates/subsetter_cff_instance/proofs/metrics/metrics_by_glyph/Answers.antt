use Rattle.std.proofs.Common.{length, ap, arith}
use Rattle.subsetter_cff_instance.specs.Metrics.{metric_among}
use Rattle.subsetter_cff_instance.proofs.FileLaws.Metrics.{length-by_glyph}
use Rattle.subsetter_cff_instance.proofs.MetricsLaws.{mapped_more}
use Rattle.subsetter_cff_instance.proofs.metrics.metrics_by_glyph.Goals as goal

pub loop-glyph-preserved : goal.loop-glyph-preserved
loop-glyph-preserved c = record {
  written = mapped_more (metric_among c.args.mapper.now c.args.metrics.now) c.loop-glyph.all.items _ c.loop-glyph.glyph _ c.loop-glyph.invariant.written c.metric_among.ensures c.push_reserved.ensures.items;
  room = omega (arith, c.loop-glyph.invariant.room, c.push_reserved.ensures.len, c.push_reserved.ensures.capacity);
}

pub returns-clause-count : goal.returns-clause-count
returns-clause-count c = omega (arith, ap length c.loop-glyph.invariant.written, length-by_glyph c.args.mapper.now c.args.metrics.now c.loop-glyph.glyph, c.loop-glyph-test.false, c.loop-glyph.auto.glyph-end)
