use Rattle.std.proofs.Common.{◌≡◌, ◌-◌, ◌≤◌, ◌<◌, ℕ, false}
use Rattle.subsetter_cff.specs.Read.FdArray.Ranges.{found_from, has_glyph}
use Rattle.subsetter_cff.proofs.read.fd_array.ranges.find_by_halves.Given as goal

-- what is below low doesn't have the glyph, nor what is from high on
abbrev pub invariant-loop-low : goal.invariant-loop-low
invariant-loop-low l = record {
  below : found_from l.bytes l.glyph (l.count - l.low) l.low ≡ found_from l.bytes l.glyph l.count 0;
  above : (k : ℕ) → l.high ≤ k → k < l.count → has_glyph l.bytes l.glyph k ≡ false;
  order : l.low ≤ l.high;
  within : l.high ≤ l.count;
}

abbrev pub decreases-loop-low : goal.decreases-loop-low
decreases-loop-low l = l.high - l.low
