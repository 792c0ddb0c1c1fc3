use Rattle.std.proofs.Common.{ℕ, ◌<◌, ◌≤◌}
use Rattle.cmap.specs.Groups.{group_at}
use Rattle.cmap.specs.Halves.{AreAscending}
use Rattle.cmap.proofs.halves.ascend.Given as goal

abbrev pub invariant-loop-place : goal.invariant-loop-place
invariant-loop-place l = record {
  starts : (j : ℕ) → j < l.place → (group_at l.table j).start ≤ l.start;
  ends : (j : ℕ) → j < l.place → (group_at l.table j).end ≤ l.end;
  ascending : AreAscending l.table l.place;
}
