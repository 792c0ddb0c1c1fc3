use Rattle.std.proofs.Common.{◌≡◌, drop}
use Rattle.subsetter_base.proofs.Results.{with_front}
use Rattle.subsetter_cff_instance.specs.Metrics.{varied_metrics}
use Rattle.subsetter_cff_instance.proofs.metrics.each_metric.Given as goal

abbrev pub invariant-loop-place : goal.invariant-loop-place
invariant-loop-place l = with_front l.metrics.items (varied_metrics l.source l.at (drop l.place l.glyphs)) ≡ varied_metrics l.source l.at l.glyphs
