use Rattle.std.proofs.Common.{◌≡◌, ℕ, ◌<◌, ◌≤◌, ◌-◌, get_or}
use Rattle.cmap.specs.Painting.{IsPainted}
use Rattle.cmap.proofs.painting.paint.Given as goal

abbrev pub invariant-loop-at : goal.invariant-loop-at
invariant-loop-at l = record {
  painted : IsPainted l.table l.count l.place l.next.items l.glyphs.items;
  start : l.first ≤ l.at;
  inside : l.at ≤ 1114112;
  itself : get_or l.next.items l.at 0 ≡ l.at;
  walked : (q : ℕ) → l.first ≤ q → q < l.at → q < get_or l.next.items q 0;
}

abbrev pub decreases-loop-at : goal.decreases-loop-at
decreases-loop-at l = 1114112 - l.at
