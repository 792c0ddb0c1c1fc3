use Rattle.std.proofs.Common.{◌≡◌, ◌+◌, ◌≤◌, ◌++◌, drop, length}
use Rattle.std.specs.Prelude.{vec_capacity}
use Rattle.std.specs.List.{flat_map}
use Rattle.subsetter_sfnt.specs.Fields.Hmtx.{bearing_bytes}
use Rattle.subsetter.proofs.common.hmtx.write_bearings.Given as goal

abbrev pub invariant-loop-metric : goal.invariant-loop-metric
invariant-loop-metric l = record {
  written : l.out.items ++ flat_map bearing_bytes (drop l.metric-index l.metrics) ≡ l.fn.out.items ++ flat_map bearing_bytes l.metrics;
  room : length l.out.items + length (flat_map bearing_bytes (drop l.metric-index l.metrics)) ≤ vec_capacity l.out;
  capacity : vec_capacity l.fn.out ≤ vec_capacity l.out;
}
