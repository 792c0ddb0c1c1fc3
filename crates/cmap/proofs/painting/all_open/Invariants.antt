use Rattle.std.proofs.Common.{◌≡◌, ℕ, ◌<◌, length, get_or}
use Rattle.cmap.proofs.painting.all_open.Given as goal

abbrev pub invariant-loop-place : goal.invariant-loop-place
invariant-loop-place l = record {
  len : length l.places.items ≡ l.place;
  itself : (k : ℕ) → k < l.place → get_or l.places.items k 0 ≡ k;
}
