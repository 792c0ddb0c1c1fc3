use Rattle.std.proofs.Common.{◌≡◌, ◌≤◌, ◌+◌, ◌-◌, map, vec_len, vec_capacity}
use Rattle.std.specs.List.{range_with_len}
use Rattle.subsetter_cff_instance.specs.Metrics.{metric_among}
use Rattle.subsetter_cff_instance.proofs.metrics.metrics_by_glyph.Given as goal

abbrev pub invariant-loop-glyph : goal.invariant-loop-glyph
invariant-loop-glyph l = record {
  written : l.all.items ≡ map (metric_among l.mapper l.metrics) (range_with_len 0 l.glyph);
  room : vec_len l.all + (l.count - l.glyph) ≤ vec_capacity l.all;
}
