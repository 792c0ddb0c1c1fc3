use Rattle.std.proofs.Common.{◌≡◌, ℕ, ◌<◌, length, get_or, drop, None}
use Rattle.subsetter_variation.specs.Glyphs.Varied.{ats_of, deltas_of, listed_delta}
use Rattle.subsetter_variation.proofs.glyphs.varied.listed_points.Given as goal

abbrev pub invariant-loop-i : goal.invariant-loop-i
invariant-loop-i l = record {
  at : ats_of l.points.items ≡ l.coordinates;
  read : (k : ℕ) → k < length l.coordinates → listed_delta (get_or (deltas_of l.points.items) k None) (drop l.i l.numbers) (drop l.i l.deltas) k ≡ listed_delta None l.numbers l.deltas k;
}
