use Rattle.std.proofs.Common.{◌≡◌}
use Rattle.subsetter_variation.specs.Locations.Segments.{by_segments, counting, counting_from, mapped_from, axis_value_maps}
use Rattle.subsetter_variation.proofs.locations.segments.by_segments.Given as goal

abbrev pub invariant-loop-q : goal.invariant-loop-q
invariant-loop-q l = mapped_from l.passed.last (counting_from l.passed.top l.passed.last (axis_value_maps l.q-iterator)) l.n ≡ by_segments (counting (axis_value_maps l.fn.ends)) l.n
