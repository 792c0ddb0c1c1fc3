use Rattle.std.proofs.Common.{◌≡◌, ℕ, ◌-◌, ◌<◌, ◌≤◌, ◌^◌, List, length, get_or, drop, pos, ℤ, ◌+ℤ◌, ◌*ℤ◌, unsigned_abs, Some, option_map}
use Rattle.subsetter_variation.specs.Packing.Packed.{deltas_from, runs}
use Rattle.subsetter_variation.proofs.packing.packed_sums.add_deltas.Given as goal

abbrev pub decreases-loop-at : goal.decreases-loop-at
decreases-loop-at l = length l.initial.sums - l.at

abbrev pub invariant-loop-at : goal.invariant-loop-at
invariant-loop-at l = record {
  within : l.at ≤ length l.initial.sums;
  read : deltas_from (length l.initial.sums - l.at) (runs l.rest) ≡ option_map (λ d. (drop l.at d.0, d.1)) (deltas_from (length l.initial.sums) (runs l.bytes));
  added : (d : List ℤ × List ℕ) → deltas_from (length l.initial.sums) (runs l.bytes) ≡ Some d → (j : ℕ) → j < l.at → get_or l.sums j (pos 0) ≡ get_or l.initial.sums j (pos 0) +ℤ l.scalar *ℤ get_or d.0 j (pos 0);
  bound : (d : List ℤ × List ℕ) → deltas_from (length l.initial.sums) (runs l.bytes) ≡ Some d → (j : ℕ) → j < l.at → unsigned_abs (l.scalar *ℤ get_or d.0 j (pos 0)) ≤ 2 ^ 45;
  left : (j : ℕ) → l.at ≤ j → get_or l.sums j (pos 0) ≡ get_or l.initial.sums j (pos 0);
}
