use Rattle.std.proofs.Common.{length, sym, ap, ◌∙◌}
use Rattle.subsetter.specs.Common.Hmtx.Written.{MetricBytes}
use Rattle.subsetter.proofs.CommonLaws.HmtxLaws.Written.{length-hhea}
use Rattle.subsetter.proofs.common.hmtx.NewMetrics.hhea_len.Goals as goal

pub returns : goal.returns
returns c = sym (length-hhea c.self.inside.number_of_h_metrics c.self.inside.header.now c.self.invariant.whole) ∙ ap (λ (m : MetricBytes). length m.hhea) c.self.view_is
