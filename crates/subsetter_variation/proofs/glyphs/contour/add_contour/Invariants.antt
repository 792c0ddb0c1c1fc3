use Rattle.std.proofs.Common.{◌≡◌, ℕ, ◌<◌, ◌≤◌, ◌^◌, get_or, pos, ◌+ℤ◌, unsigned_abs, take, drop}
use Rattle.std.specs.Option.{option_or}
use Rattle.subsetter_variation.specs.Glyphs.Inferred.{first_touched, last_touched, moved}
use Rattle.subsetter_variation.proofs.glyphs.contour.add_contour.Given as goal

abbrev pub invariant-loop-k : goal.invariant-loop-k
invariant-loop-k l = record {
  below : l.before ≡ option_or (last_touched (take l.k l.contour)) (last_touched l.contour);
  above : l.after ≡ option_or (first_touched (drop l.k l.contour)) (first_touched l.contour);
  added : (j : ℕ) → j < l.k → get_or l.sums j (pos 0) ≡ get_or l.initial.sums j (pos 0) +ℤ moved l.contour j l.scalar;
  bound : (j : ℕ) → j < l.k → unsigned_abs (moved l.contour j l.scalar) ≤ 2 ^ 45;
  rest : (j : ℕ) → l.k ≤ j → get_or l.sums j (pos 0) ≡ get_or l.initial.sums j (pos 0);
}
