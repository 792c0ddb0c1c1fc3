use Rattle.std.proofs.Common.{length, ap, arith}
use Rattle.subsetter.specs.Common.Hmtx.Written.{MetricBytes}
use Rattle.subsetter_sfnt.proofs.Laws.FieldsLaws.HmtxLaws.{length-hmtx}
use Rattle.subsetter.proofs.common.hmtx.NewMetrics.hmtx_len.Goals as goal

pub returns : goal.returns
returns c = omega (arith, length-hmtx c.self.inside.metrics.items c.self.inside.number_of_h_metrics c.self.invariant.within, ap (λ (m : MetricBytes). length m.hmtx) c.self.view_is, c.len.ensures, c.from.ensures)
