use Rattle.std.proofs.Common.{◌≡◌, ℕ, ◌+◌, ◌*◌, ◌<◌, ◌≤◌, ◌^◌, get_or, pos, ◌+ℤ◌, ◌*ℤ◌, unsigned_abs}
use Rattle.std.specs.Int.{w16, cast_signed}
use Rattle.subsetter_variation.proofs.packing.packed_sums.add_words.Given as goal

abbrev pub invariant-loop-k : goal.invariant-loop-k
invariant-loop-k l = record {
  added : (j : ℕ) → j < l.k → get_or l.sums j (pos 0) ≡ get_or l.initial.sums j (pos 0) +ℤ l.scalar *ℤ cast_signed w16 (get_or l.bytes (j * 2) 0 * 256 + get_or l.bytes (j * 2 + 1) 0);
  bound : (j : ℕ) → j < l.k → unsigned_abs (l.scalar *ℤ cast_signed w16 (get_or l.bytes (j * 2) 0 * 256 + get_or l.bytes (j * 2 + 1) 0)) ≤ 2 ^ 45;
  rest : (j : ℕ) → l.k ≤ j → get_or l.sums j (pos 0) ≡ get_or l.initial.sums j (pos 0);
}
