use Rattle.std.proofs.Common.{◌≡◌, ◌-◌}
use Rattle.subsetter_variation.specs.Items.FontMetrics.{value_from}
use Rattle.subsetter_variation.proofs.items.font_metrics.value_from.Given as goal

abbrev pub invariant-loop-k : goal.invariant-loop-k
invariant-loop-k l = value_from (l.count - l.k) l.k l.size l.mvar l.tag.0 ≡ value_from l.count 0 l.size l.mvar l.tag.0
