use Rattle.std.proofs.Common.{ℕ, ◌<◌, ◌≤◌, ◌-◌}
use Rattle.cmap.specs.Groups.{group_at}
use Rattle.cmap.proofs.halves.first_group.Given as goal

abbrev pub invariant-loop-low : goal.invariant-loop-low
invariant-loop-low l = record {
  order : l.low ≤ l.high;
  within : l.high ≤ l.there;
  before : (j : ℕ) → j < l.low → (group_at l.table j).end < l.character;
  here : l.high < l.there → l.character ≤ (group_at l.table l.high).end;
}

abbrev pub decreases-loop-low : goal.decreases-loop-low
decreases-loop-low l = l.high - l.low
