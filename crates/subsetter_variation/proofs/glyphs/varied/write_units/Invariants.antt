use Rattle.std.proofs.Common.{◌≡◌, ℕ, ◌<◌, ◌≤◌, ◌^◌, get_or, pos, ◌*ℤ◌, unsigned_abs}
use Rattle.subsetter_variation.proofs.glyphs.varied.write_units.Given as goal

abbrev pub invariant-loop-k : goal.invariant-loop-k
invariant-loop-k l = record {
  value : (j : ℕ) → j < l.k → get_or l.sums j (pos 0) ≡ pos (2 ^ 30) *ℤ get_or l.coordinates j (pos 0);
  bound : (j : ℕ) → j < l.k → unsigned_abs (get_or l.sums j (pos 0)) ≤ 2 ^ 45;
}
