use Rattle.std.proofs.Common.{◌-◌, ◌≤◌, ◌<◌, ℕ}
use Rattle.subsetter_cff2.proofs.SelectionLaws.RangeSteps.{Misses}
use Rattle.subsetter_cff2.proofs.selection.search.find_by_halves.Given as goal

-- what is below low doesn't have the glyph, nor what is from high on
abbrev pub invariant-loop-low : goal.invariant-loop-low
invariant-loop-low l = record {
  below : (k : ℕ) → k < l.low → Misses l.bytes l.list.is_wide l.list.at l.glyph k;
  above : (k : ℕ) → l.high ≤ k → k < l.list.count → Misses l.bytes l.list.is_wide l.list.at l.glyph k;
  order : l.low ≤ l.high;
  within : l.high ≤ l.list.count;
}

abbrev pub decreases-loop-low : goal.decreases-loop-low
decreases-loop-low l = l.high - l.low
