-- Rounding to whole units by a division of a number above 0.
use Rattle.std.proofs.Common.{◌≡◌, ◌≤◌, ◌^◌, ◌+◌, ◌-◌, ◌*◌, ◌/◌, ℕ, zero, suc, ℤ, pos, negsuc, unsigned_abs, arith, ap, ◌∙◌}
use Rattle.std.specs.Prelude.{◌+ℤ◌, ◌-ℤ◌, neg_ℤ}
use Rattle.std.proofs.lemmas.Bool.{le-ltb, lt-ltb}
use Rattle.std.proofs.Math.IntN.{sub_ℕ}
use Rattle.subsetter_variation.specs.Nearest.{nearest}

above_is : (a b q : ℕ) → a ≡ q + b → sub_ℕ a b ≡ pos q
above_is a b q e = rw (le-ltb a b (omega (arith, e))) (ap pos (omega (arith, e)))

below_is : (a b q : ℕ) → a + q ≡ b → sub_ℕ a b ≡ neg_ℤ (pos q)
below_is a b zero e = rw (le-ltb a b (omega (arith, e))) (ap pos (omega (arith, e)))
below_is a b (suc q) e = rw (lt-ltb a b (omega (arith, e))) (ap negsuc (omega (arith, e)))

pub whole_is : (v : ℤ) → unsigned_abs v ≤ 2 ^ 60 → pos (unsigned_abs (v +ℤ pos (2 ^ 61) +ℤ pos (2 ^ 29)) / 2 ^ 30) -ℤ pos (2 ^ 31) ≡ nearest v (2 ^ 30)
unfolding nearest
whole_is (pos a) h = above_is ((a + 2 ^ 61 + 2 ^ 29) / 2 ^ 30) (2 ^ 31) ((2 * a + 2 ^ 30) / (2 * 2 ^ 30)) (omega (arith, h))
whole_is (negsuc a) h = ap (λ z. pos (unsigned_abs (z +ℤ pos (2 ^ 29)) / 2 ^ 30) -ℤ pos (2 ^ 31)) (above_is (2 ^ 61) (suc a) (2 ^ 61 - suc a) (omega (arith, h)))
    ∙ below_is ((2 ^ 61 - suc a + 2 ^ 29) / 2 ^ 30) (2 ^ 31) ((2 * a + 1 + 2 ^ 30) / (2 * 2 ^ 30)) (omega (arith, h))
