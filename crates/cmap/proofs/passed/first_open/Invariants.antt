use Rattle.std.proofs.Common.{◌≡◌, ℕ, ◌<◌, ◌≤◌, ◌-◌, length, get_or}
use Rattle.cmap.specs.Passed.{IsLeading}
use Rattle.cmap.proofs.passed.first_open.Given as goal

abbrev pub invariant-loop-at : goal.invariant-loop-at
invariant-loop-at l = record {
  leading : IsLeading l.next.items;
  bounds : l.from ≤ l.at;
  inside : l.at < length l.next.items;
  passed : (q : ℕ) → l.from ≤ q → q < l.at → q < get_or l.next.items q 0;
  still_open : (q : ℕ) → q < length l.next.items → get_or l.initial.next.items q 0 ≡ q → get_or l.next.items q 0 ≡ q;
  len : length l.next.items ≡ length l.initial.next.items;
  still_passed : (q : ℕ) → q < length l.next.items → q < get_or l.initial.next.items q 0 → q < get_or l.next.items q 0;
}

abbrev pub decreases-loop-at : goal.decreases-loop-at
decreases-loop-at l = length l.next.items - l.at
