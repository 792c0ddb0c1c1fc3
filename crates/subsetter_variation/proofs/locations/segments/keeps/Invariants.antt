use Rattle.std.proofs.Common.{◌≡◌}
use Rattle.subsetter_variation.specs.Locations.Segments.{counting, counting_from, keeps, axis_value_maps}
use Rattle.subsetter_variation.proofs.locations.segments.keeps.Given as goal

abbrev pub invariant-loop-q : goal.invariant-loop-q
invariant-loop-q l = keeps l.number (counting_from l.passed.top l.passed.last (axis_value_maps l.q-iterator)) ≡ keeps l.number (counting (axis_value_maps l.ends))
