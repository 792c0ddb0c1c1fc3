-- What rounding comes to.
use Rattle.std.proofs.Common.{◌≡◌, ℕ, zero, suc, ◌+◌, ◌*◌, ◌/◌, ◌<◌, ◌≤◌, ℤ, pos, negsuc, neg_ℤ, ◌+ℤ◌, ◌-ℤ◌, ◌*ℤ◌, ◌≤ℤ◌, refl, arith, ap, sym, ◌∙◌, subst}
use Rattle.std.proofs.lemmas.Int.{ints}
use Rattle.subsetter_variation.specs.Nearest.{nearest}
use Rattle.pdf_values.specs.Rounding.{thousandfold, thousandths, IsNearest, IsBelow, IsAbove}

-- products with a number below 0, and with the next number
mul_neg : (d q : ℕ) → pos d *ℤ neg_ℤ (pos q) ≡ neg_ℤ (pos (d * q))
mul_neg d zero = grind (arith, ints)
mul_neg d (suc q) = refl

mul_next : (d q : ℕ) → d * suc q ≡ d * q + d
mul_next d q = grind arith

-- one more, times d
next : (d : ℕ) (r : ℤ) → pos d *ℤ (r +ℤ pos 1) ≡ (pos d *ℤ r) +ℤ pos d
next d (pos q) = ap pos (grind arith)
next d (negsuc zero) = grind (arith, ints)
next d (negsuc (suc q)) =
    let a : negsuc (suc q) +ℤ pos 1 ≡ negsuc q = omega (arith, ints) in
    ap (λ r. pos d *ℤ r) a ∙ omega (arith, ints, mul_next d (suc q))

quotient_low : (d n : ℕ) → 0 < d → d * (n / d) ≤ n
quotient_low d n h = omega arith

quotient_high : (d n : ℕ) → 0 < d → n < d * (n / d) + d
quotient_high d n h = omega arith

-- by the quotient of what isn't negative, and of what is
near_above : (n units q : ℕ) → 2 * units * q ≤ 2 * (1000 * n) + units → 2 * (1000 * n) + units < 2 * units * q + 2 * units → IsNearest (pos n) units (pos q)
near_above n units q low high = record { low = omega (arith, ints); high = rw (next (2 * units) (pos q)) (omega (arith, ints)) }

near_below : (n units q : ℕ) → 2 * units * q ≤ 2 * (1000 * n + 999) + 1 + units → 2 * (1000 * n + 999) + 1 + units < 2 * units * q + 2 * units → IsNearest (negsuc n) units (neg_ℤ (pos q))
near_below n units q low high = record {
  low = rw (mul_neg (2 * units) q) (omega (arith, ints));
  high = rw (next (2 * units) (neg_ℤ (pos q)), mul_neg (2 * units) q) (omega (arith, ints));
}

pub nearest_is : (v : ℤ) (units : ℕ) → 0 < units → IsNearest v units (nearest (thousandfold v) units)
unfolding nearest
nearest_is (pos n) units h =
    let d : 0 < 2 * units = omega arith in
    near_above n units _ (quotient_low (2 * units) (2 * (1000 * n) + units) d) (quotient_high (2 * units) (2 * (1000 * n) + units) d)
nearest_is (negsuc n) units h =
    let d : 0 < 2 * units = omega arith in
    let e : 1000 * suc n ≡ suc (1000 * n + 999) = omega arith in
    let t : thousandfold (negsuc n) ≡ negsuc (1000 * n + 999) = ap (λ k. neg_ℤ (pos k)) e in
    subst (λ a. IsNearest (negsuc n) units (nearest a units)) (sym t) (near_below n units _ (quotient_low (2 * units) (2 * (1000 * n + 999) + 1 + units) d) (quotient_high (2 * units) (2 * (1000 * n + 999) + 1 + units) d))

pub thousandths_is : (v : ℤ) (units : ℕ) → 0 < units → IsNearest v units (thousandths v units)
unfolding thousandths
thousandths_is v units h = nearest_is v units h

-- of a number that is equal to it
pub is_nearest : (v : ℤ) (units : ℕ) (r : ℤ) → r ≡ thousandths v units → 0 < units → IsNearest v units r
is_nearest v units r e h = subst (IsNearest v units) (sym e) (thousandths_is v units h)

-- what is below the one of two opposite numbers is above the other
double_neg : (d : ℕ) (r : ℤ) → pos d *ℤ neg_ℤ r ≡ neg_ℤ (pos d *ℤ r)
double_neg d (pos q) = mul_neg d q
double_neg d (negsuc q) = omega (arith, ints)

thousand_neg : (v : ℤ) → thousandfold (neg_ℤ v) ≡ neg_ℤ (thousandfold v)
thousand_neg v = double_neg 1000 v

pub is_above : (v : ℤ) (units : ℕ) (r : ℤ) → IsBelow (neg_ℤ v) units r → IsAbove v units (neg_ℤ r)
is_above v units r b =
    let t = thousand_neg v in
    let a : neg_ℤ r -ℤ pos 1 ≡ neg_ℤ (r +ℤ pos 1) = omega (arith, ints) in
    let low = b.low in
    let high = b.high in
    record {
      low = rw (a, double_neg units (r +ℤ pos 1)) (omega (arith, ints, t, high));
      high = rw (double_neg units r) (omega (arith, ints, t, low));
    }

pub is_opposite : (v w : ℤ) (units : ℕ) (r z : ℤ) → w ≡ neg_ℤ v → z ≡ neg_ℤ r → IsBelow w units r → IsAbove v units z
is_opposite v w units r z e f b = subst (IsAbove v units) (sym f) (is_above v units r (subst (λ k. IsBelow k units r) e b))

-- of numbers that are equal to these
pub same_below : (v w : ℤ) (units n : ℕ) (r z : ℤ) → w ≡ v → n ≡ units → z ≡ r → IsBelow w n r → IsBelow v units z
same_below v w units n r z e f g b = subst (IsBelow v units) (sym g) (subst (λ k. IsBelow v k r) f (subst (λ k. IsBelow k n r) e b))

pub same_above : (v w : ℤ) (units n : ℕ) (r z : ℤ) → w ≡ v → n ≡ units → z ≡ r → IsAbove w n r → IsAbove v units z
same_above v w units n r z e f g b = subst (IsAbove v units) (sym g) (subst (λ k. IsAbove v k r) f (subst (λ k. IsAbove k n r) e b))

-- what isn't above 0 is rounded to what isn't
below_one : (units : ℕ) (v r : ℤ) → 0 < units → v ≤ℤ pos 0 → (pos (2 * units) *ℤ r) ≤ℤ ((pos 2000 *ℤ v) +ℤ pos units) → r ≤ℤ pos 0
below_one units v (pos zero) h l low = omega (arith, ints)
below_one units v (pos (suc q)) h l low = absurd (omega (arith, ints, mul_next (2 * units) q))
below_one units v (negsuc q) h l low = omega (arith, ints)

pub not_above_0 : (v : ℤ) (units : ℕ) (r : ℤ) → r ≡ thousandths v units → 0 < units → v ≤ℤ pos 0 → r ≤ℤ pos 0
not_above_0 v units r e h l = below_one units v r h l (is_nearest v units r e h).low
