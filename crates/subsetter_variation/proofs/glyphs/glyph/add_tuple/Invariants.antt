use Rattle.std.proofs.Common.{◌≡◌, ℕ, ◌<◌, ◌≤◌, ◌^◌, get_or, length, pos, ◌+ℤ◌, unsigned_abs, drop}
use Rattle.subsetter_variation.specs.Glyphs.Varied.{AreEnds, moved_in}
use Rattle.subsetter_variation.proofs.glyphs.glyph.add_tuple.Given as goal

abbrev pub invariant-loop-end : goal.invariant-loop-end
invariant-loop-end l = record {
  left : AreEnds l.start (drop l.end-index l.ends) (length l.points);
  others : (k : ℕ) → l.start ≤ k → moved_in l.points 0 l.ends k l.scalar ≡ moved_in l.points l.start (drop l.end-index l.ends) k l.scalar;
  added : (k : ℕ) → k < l.start → get_or l.sums k (pos 0) ≡ get_or l.initial.sums k (pos 0) +ℤ moved_in l.points 0 l.ends k l.scalar;
  bound : (k : ℕ) → k < l.start → unsigned_abs (moved_in l.points 0 l.ends k l.scalar) ≤ 2 ^ 45;
  rest : (k : ℕ) → l.start ≤ k → get_or l.sums k (pos 0) ≡ get_or l.initial.sums k (pos 0);
}
