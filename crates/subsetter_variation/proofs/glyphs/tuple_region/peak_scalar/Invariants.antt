use Rattle.std.proofs.Common.{◌≡◌, ◌+◌, ◌-◌, ◌*◌, ◌^◌, false, drop, length, pos, ◌≤ℤ◌}
use Rattle.subsetter_variation.specs.Region.{scalar, scalar_of}
use Rattle.subsetter_variation.specs.Glyphs.Tuples.{region_axes}
use Rattle.subsetter_variation.proofs.glyphs.tuple_region.peak_scalar.Given as goal

abbrev pub invariant-loop-i : goal.invariant-loop-i
invariant-loop-i l = record {
  counted : scalar_of l.whole (region_axes false (length l.at - l.i) l.rest l.rest l.rest) (drop l.i l.at) ≡ scalar (region_axes false (length l.at) l.peaks l.peaks l.peaks) l.at;
  low : pos 0 ≤ℤ l.whole;
  high : l.whole ≤ℤ pos (2 ^ 30);
  peak : length l.rest + l.i * 2 ≡ length l.at * 2;
}
