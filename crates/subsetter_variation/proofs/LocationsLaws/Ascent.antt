-- A greater user coordinate lies no lower on its axis.
use Rattle.std.proofs.Common.{◌≡◌, ℕ, ◌+◌, ◌*◌, ◌/◌, ◌<◌, ◌≤◌, Bool, true, false, cond, ℤ, pos, negsuc, neg_ℤ, ◌-ℤ◌, ◌*ℤ◌, int_lt, int_le, unsigned_abs, refl, subst, arith}
use Rattle.std.proofs.lemmas.Int.{ints}
use Rattle.std.proofs.Math.Nat.{div-lt_iff_lt-mul}
use lib.Signed.{◌<ℤ◌, ◌≤ℤ◌}
use Rattle.subsetter_variation.specs.Locations.Axes.{above_default, below_default, default_normalized, toward}
use Rattle.subsetter_variation.specs.Nearest.{nearest, mul_div_nearest}
use Rattle.subsetter_variation.specs.Locations.LocationLaws.{NeverDescends}
use Rattle.subsetter_variation.specs.declared.locations.axes.Axis.{Axis}
use Rattle.subsetter_variation.proofs.Quotients.{part_within}
use Rattle.subsetter_variation.proofs.GlyphsLaws.Turning.{nearest_zero}

-- ---- quotients

quotient_up : (p q m : ℕ) → 0 < m → p ≤ q → p / m ≤ q / m
quotient_up p q m above h =
    let more : q < (q / m + 1) * m = (div-lt_iff_lt-mul {k = m} {x = q} {y = q / m + 1} above).0 (omega arith) in
    let less : p / m < q / m + 1 = (div-lt_iff_lt-mul {k = m} {x = p} {y = q / m + 1} above).1 (omega arith) in
    omega arith

negated_up : (p q : ℕ) → q ≤ p → neg_ℤ (pos p) ≤ℤ neg_ℤ (pos q)
negated_up p q h = omega (arith, ints)

under_zero : (p q : ℕ) → neg_ℤ (pos p) ≤ℤ pos q
under_zero p q = omega (arith, ints)

pub nearest_up : (x y : ℤ) (n : ℕ) → 0 < n → x ≤ℤ y → nearest x n ≤ℤ nearest y n
unfolding nearest
nearest_up (pos a) (pos b) n above h = let less : (2 * a + n) / (2 * n) ≤ (2 * b + n) / (2 * n) = quotient_up (2 * a + n) (2 * b + n) (2 * n) (omega arith) (omega (arith, ints)) in omega (arith, ints)
nearest_up (pos a) (negsuc b) n above h = absurd (omega (arith, ints))
nearest_up (negsuc a) (pos b) n above h = under_zero ((2 * a + 1 + n) / (2 * n)) ((2 * b + n) / (2 * n))
nearest_up (negsuc a) (negsuc b) n above h = negated_up ((2 * a + 1 + n) / (2 * n)) ((2 * b + 1 + n) / (2 * n)) (quotient_up (2 * b + 1 + n) (2 * a + 1 + n) (2 * n) (omega arith) (omega (arith, ints)))

-- ---- toward an end

times_up : (x y : ℤ) → x ≤ℤ y → (x *ℤ pos 65536) ≤ℤ (y *ℤ pos 65536)
times_up x y h = omega (arith, ints)

toward_up : (end default c d : ℤ) → 0 < unsigned_abs (end -ℤ default) → c ≤ℤ d → toward end default c ≤ℤ toward end default d
unfolding toward mul_div_nearest
toward_up end default c d apart h = nearest_up ((c -ℤ default) *ℤ pos 65536) ((d -ℤ default) *ℤ pos 65536) (unsigned_abs (end -ℤ default)) apart (times_up (c -ℤ default) (d -ℤ default) (omega (arith, ints)))

toward_default : (end default c : ℤ) → c ≡ default → toward end default c ≡ pos 0
unfolding toward mul_div_nearest
toward_default end default c h = nearest_zero ((c -ℤ default) *ℤ pos 65536) (unsigned_abs (end -ℤ default)) (omega (arith, ints))

pub toward_within : (end default c : ℤ) → 0 < unsigned_abs (end -ℤ default) → unsigned_abs (c -ℤ default) ≤ unsigned_abs (end -ℤ default) → unsigned_abs (toward end default c) ≤ 65536
unfolding toward
toward_within end default c apart h = part_within (c -ℤ default) (pos 65536) (unsigned_abs (end -ℤ default)) apart h

-- ---- tests

pub lt_true : (x y : ℤ) → int_lt x y ≡ true → x <ℤ y
lt_true x y h = grind (arith, ints)

pub lt_false : (x y : ℤ) → int_lt x y ≡ false → y ≤ℤ x
lt_false x y h = grind (arith, ints)

pub le_true : (x y : ℤ) → int_le x y ≡ true → x ≤ℤ y
le_true x y h = grind (arith, ints)

pub le_false : (x y : ℤ) → int_le x y ≡ false → y <ℤ x
le_false x y h = grind (arith, ints)

same : (x : ℤ) → x ≤ℤ x
same x = omega (arith, ints)

pub through : (x y z : ℤ) → x ≤ℤ y → y ≤ℤ z → x ≤ℤ z
through x y z h k = omega (arith, ints)

pub apart_is : (x y : ℤ) → x <ℤ y → 0 < unsigned_abs (x -ℤ y)
apart_is x y h = grind (arith, ints)

pub apart_too : (x y : ℤ) → y <ℤ x → 0 < unsigned_abs (x -ℤ y)
apart_too x y h = grind (arith, ints)

pub closer_below : (end default c : ℤ) → end ≤ℤ c → c ≤ℤ default → unsigned_abs (c -ℤ default) ≤ unsigned_abs (end -ℤ default)
closer_below end default c h k = grind (arith, ints)

pub closer_above : (end default c : ℤ) → c ≤ℤ end → default ≤ℤ c → unsigned_abs (c -ℤ default) ≤ unsigned_abs (end -ℤ default)
closer_above end default c h k = grind (arith, ints)

no_lower : (z : ℤ) (n : ℕ) → unsigned_abs z ≤ n → neg_ℤ (pos n) ≤ℤ z
no_lower z n h = grind (arith, ints)

no_higher : (z : ℤ) (n : ℕ) → unsigned_abs z ≤ n → z ≤ℤ pos n
no_higher z n h = grind (arith, ints)

-- ---- below the default, and above it

module _ (a : Axis) where
  abbrev below : Bool → Bool → ℤ → ℤ
  below x y c = cond x (pos 0) (cond y (neg_ℤ (pos 65536)) (toward a.minimum a.default c))

  abbrev above : Bool → Bool → ℤ → ℤ
  above x y c = cond x (pos 0) (cond y (pos 65536) (toward a.maximum a.default c))

  below_up : (c d : ℤ) → c ≤ℤ d → d <ℤ a.default → (x y z : Bool) → int_le a.default a.minimum ≡ x → int_le c a.minimum ≡ y → int_le d a.minimum ≡ z → below x y c ≤ℤ below x z d
  below_up c d h lt true y z e f g = same (pos 0)
  below_up c d h lt false true true e f g = same (neg_ℤ (pos 65536))
  below_up c d h lt false true false e f g =
      let under = le_false a.default a.minimum e in
      let over = le_false d a.minimum g in
      no_lower (toward a.minimum a.default d) 65536 (toward_within a.minimum a.default d (apart_is a.minimum a.default under) (closer_below a.minimum a.default d (omega (arith, ints)) (omega (arith, ints))))
  below_up c d h lt false false true e f g =
      let over = le_false c a.minimum f in
      let under = le_true d a.minimum g in
      absurd (omega (arith, ints))
  below_up c d h lt false false false e f g = toward_up a.minimum a.default c d (apart_is a.minimum a.default (le_false a.default a.minimum e)) h

  below_zero : (c : ℤ) → c <ℤ a.default → (x y : Bool) → int_le a.default a.minimum ≡ x → int_le c a.minimum ≡ y → below x y c ≤ℤ pos 0
  below_zero c lt true y e f = same (pos 0)
  below_zero c lt false true e f = omega (arith, ints)
  below_zero c lt false false e f =
      let at : toward a.minimum a.default a.default ≡ pos 0 = toward_default a.minimum a.default a.default refl in
      subst (λ z. toward a.minimum a.default c ≤ℤ z) at (toward_up a.minimum a.default c a.default (apart_is a.minimum a.default (le_false a.default a.minimum e)) (omega (arith, ints)))

  above_up : (c d : ℤ) → c ≤ℤ d → a.default <ℤ c → (x y z : Bool) → int_le a.maximum a.default ≡ x → int_le a.maximum c ≡ y → int_le a.maximum d ≡ z → above x y c ≤ℤ above x z d
  above_up c d h lt true y z e f g = same (pos 0)
  above_up c d h lt false true true e f g = same (pos 65536)
  above_up c d h lt false true false e f g =
      let over = le_true a.maximum c f in
      let under = le_false a.maximum d g in
      absurd (omega (arith, ints))
  above_up c d h lt false false true e f g =
      let under = le_false a.maximum a.default e in
      let over = le_false a.maximum c f in
      no_higher (toward a.maximum a.default c) 65536 (toward_within a.maximum a.default c (apart_too a.maximum a.default under) (closer_above a.maximum a.default c (omega (arith, ints)) (omega (arith, ints))))
  above_up c d h lt false false false e f g = toward_up a.maximum a.default c d (apart_too a.maximum a.default (le_false a.maximum a.default e)) h

  above_zero : (c : ℤ) → a.default <ℤ c → (x y : Bool) → int_le a.maximum a.default ≡ x → int_le a.maximum c ≡ y → pos 0 ≤ℤ above x y c
  above_zero c lt true y e f = same (pos 0)
  above_zero c lt false true e f = omega (arith, ints)
  above_zero c lt false false e f =
      let at : toward a.maximum a.default a.default ≡ pos 0 = toward_default a.maximum a.default a.default refl in
      subst (λ z. z ≤ℤ toward a.maximum a.default c) at (toward_up a.maximum a.default a.default c (apart_too a.maximum a.default (le_false a.maximum a.default e)) (omega (arith, ints)))

  placed_up : (c d : ℤ) → c ≤ℤ d → (p q r s : Bool) → int_lt c a.default ≡ p → int_lt a.default c ≡ q → int_lt d a.default ≡ r → int_lt a.default d ≡ s
      → cond p (below_default a c) (cond q (above_default a c) (pos 0)) ≤ℤ cond r (below_default a d) (cond s (above_default a d) (pos 0))
  placed_up c d h true q true s e f g i = below_up c d h (lt_true d a.default g) (int_le a.default a.minimum) (int_le c a.minimum) (int_le d a.minimum) refl refl refl
  placed_up c d h true q false true e f g i =
      through (below_default a c) (pos 0) (above_default a d) (below_zero c (lt_true c a.default e) (int_le a.default a.minimum) (int_le c a.minimum) refl refl) (above_zero d (lt_true a.default d i) (int_le a.maximum a.default) (int_le a.maximum d) refl refl)
  placed_up c d h true q false false e f g i = below_zero c (lt_true c a.default e) (int_le a.default a.minimum) (int_le c a.minimum) refl refl
  placed_up c d h false true true s e f g i = let one = lt_true a.default c f in let two = lt_true d a.default g in absurd (omega (arith, ints))
  placed_up c d h false true false true e f g i = above_up c d h (lt_true a.default c f) (int_le a.maximum a.default) (int_le a.maximum c) (int_le a.maximum d) refl refl refl
  placed_up c d h false true false false e f g i = let one = lt_true a.default c f in let two = lt_false a.default d i in absurd (omega (arith, ints))
  placed_up c d h false false true s e f g i = let one = lt_false c a.default e in let two = lt_true d a.default g in absurd (omega (arith, ints))
  placed_up c d h false false false true e f g i = above_zero d (lt_true a.default d i) (int_le a.maximum a.default) (int_le a.maximum d) refl refl
  placed_up c d h false false false false e f g i = same (pos 0)

pub never_descends : NeverDescends
unfolding default_normalized
never_descends a c d h = placed_up a c d h (int_lt c a.default) (int_lt a.default c) (int_lt d a.default) (int_lt a.default d) refl refl refl refl
