use Rattle.std.proofs.Common.{◌≡◌, None, map}
use Rattle.std.specs.List.{range_with_len}
use Rattle.subsetter_variation.specs.Glyphs.Varied.{delta_of}
use Rattle.subsetter_variation.proofs.glyphs.varied.all_by_point.Given as goal

abbrev pub invariant-loop-k : goal.invariant-loop-k
invariant-loop-k l = l.list.items ≡ map (delta_of None l.deltas) (range_with_len 0 l.k)
