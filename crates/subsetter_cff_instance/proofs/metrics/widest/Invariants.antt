use Rattle.std.proofs.Common.{◌≡◌, drop, map, max}
use Rattle.std.specs.List.{fold}
use Rattle.subsetter_sfnt.specs.declared.fields.hmtx.LongHorMetric.{LongHorMetric}
use Rattle.subsetter_cff_instance.specs.Metrics.{widest}
use Rattle.subsetter_cff_instance.proofs.metrics.widest.Given as goal

abbrev pub invariant-loop-metric : goal.invariant-loop-metric
invariant-loop-metric l = widest l.metrics ≡ fold max l.most (map (λ (m : LongHorMetric). m.advance_width) (drop l.metric-index l.metrics))
