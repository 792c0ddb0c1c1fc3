use Rattle.std.proofs.Common.{◌≡◌, ◌+◌, ◌-◌, ◌*◌, ◌^◌, true, drop, length, pos, ◌≤ℤ◌}
use Rattle.subsetter_variation.specs.Region.{scalar, scalar_of}
use Rattle.subsetter_variation.specs.Glyphs.Tuples.{region_axes}
use Rattle.subsetter_variation.proofs.glyphs.tuple_region.intermediate_scalar.Given as goal

abbrev pub invariant-loop-i : goal.invariant-loop-i
invariant-loop-i l = record {
  counted : scalar_of l.whole (region_axes true (length l.at - l.i) l.p l.s l.e) (drop l.i l.at) ≡ scalar (region_axes true (length l.at) l.peaks l.starts l.ends) l.at;
  low : pos 0 ≤ℤ l.whole;
  high : l.whole ≤ℤ pos (2 ^ 30);
  peak : length l.p + l.i * 2 ≡ length l.at * 2;
  start : length l.s + l.i * 2 ≡ length l.at * 2;
  end : length l.e + l.i * 2 ≡ length l.at * 2;
}
