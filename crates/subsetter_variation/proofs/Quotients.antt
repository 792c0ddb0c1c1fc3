-- How large a rounded quotient is.
use Rattle.std.proofs.Common.{◌≡◌, ℕ, ◌+◌, ◌*◌, ◌/◌, ◌<◌, ◌≤◌, ℤ, pos, negsuc, ◌*ℤ◌, ◌≤ℤ◌, unsigned_abs, arith, mul-le-mul_right}
use Rattle.std.proofs.lemmas.Int.{ints, unsigned_abs-mul}
use Rattle.std.proofs.Math.Nat.{div-lt_iff_lt-mul}
use Rattle.subsetter_variation.specs.Nearest.{nearest, mul_div_nearest}

pub half_within : (a b k : ℕ) → 0 < b → a ≤ k * b → (2 * a + b) / (2 * b) ≤ k
half_within a b k above h =
    let over : (2 * a + b) / (2 * b) < k + 1 = (div-lt_iff_lt-mul {k = 2 * b} {x = 2 * a + b} {y = k + 1} (omega arith)).1 (omega arith) in omega arith

-- the same of a + 1 where it is rounded down
pub above_within : (a b k : ℕ) → 0 < b → a + 1 ≤ k * b → (2 * a + 1 + b) / (2 * b) ≤ k
above_within a b k above h =
    let less : (2 * a + 1 + b) / (2 * b) < k + 1 = (div-lt_iff_lt-mul {k = 2 * b} {x = 2 * a + 1 + b} {y = k + 1} (omega arith)).1 (omega arith) in omega arith

-- a dividend of at most k divisors has a quotient of at most k
pub nearest_within : (a : ℤ) (b k : ℕ) → 0 < b → unsigned_abs a ≤ k * b → unsigned_abs (nearest a b) ≤ k
unfolding nearest
nearest_within (pos a) b k above h = half_within a b k above h
nearest_within (negsuc a) b k above h =
    let less : (2 * a + 1 + b) / (2 * b) ≤ k = above_within a b k above (omega arith) in grind (arith, ints, less)

-- part of m is at most m
pub part_within : (n m : ℤ) (b : ℕ) → 0 < b → unsigned_abs n ≤ b → unsigned_abs (mul_div_nearest n b m) ≤ unsigned_abs m
unfolding mul_div_nearest
part_within n m b above h = nearest_within (n *ℤ m) b (unsigned_abs m) above (omega (arith, unsigned_abs-mul n m, mul-le-mul_right (unsigned_abs m) h))

-- of a number that is equal to such a quotient
pub is_within : (r a : ℤ) (b : ℕ) → r ≡ nearest a b → 0 < b → (k : ℕ) → unsigned_abs a ≤ k * b → unsigned_abs r ≤ k
is_within r a b e above k h = rw e (nearest_within a b k above h)

pub is_part_within : (r n m : ℤ) (b : ℕ) → r ≡ mul_div_nearest n b m → 0 < b → unsigned_abs n ≤ b → unsigned_abs r ≤ unsigned_abs m
is_part_within r n m b e above h = rw e (part_within n m b above h)

-- no quotient of what isn't negative is negative
pub part_not_negative : (n b k : ℕ) → pos 0 ≤ℤ mul_div_nearest (pos n) b (pos k)
unfolding mul_div_nearest nearest
part_not_negative n b k = omega (arith, ints)

pub is_not_negative : (r n m : ℤ) (b : ℕ) → r ≡ mul_div_nearest n b m → pos 0 ≤ℤ n → pos 0 ≤ℤ m → pos 0 ≤ℤ r
is_not_negative r (pos n) (pos k) b e h g = rw e (part_not_negative n b k)
is_not_negative r (negsuc n) m b e h g = absurd (omega (arith, ints))
is_not_negative r n (negsuc k) b e h g = absurd (omega (arith, ints))
