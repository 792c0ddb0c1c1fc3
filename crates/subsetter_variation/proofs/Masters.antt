-- How far a tuple counts at the default and at its peak, and what it moves there.
use Rattle.std.proofs.Common.{◌≡◌, ℕ, zero, suc, ◌<◌, Bool, true, false, cond, ◌||◌, ◌&&◌, List, [], ◌∷◌, length, map, get_or, Some, None, ℤ, pos, negsuc, ◌*ℤ◌, ◌-ℤ◌, int_lt, int_le, unsigned_abs, All, refl, ap, sym, ◌∙◌, arith}
use Rattle.std.specs.Ordering.{int_eq}
use Rattle.std.proofs.lemmas.Int.{ints}
use Rattle.std.proofs.lemmas.Option.{get_or_from_slice_get, slice_get_within}
use Rattle.std.proofs.Math.IntN.{*ℤ-zero}
use Rattle.subsetter_variation.specs.declared.region.RegionAxis.{RegionAxis}
use Rattle.subsetter_variation.specs.Nearest.{mul_div_nearest}
use Rattle.subsetter_variation.specs.Glyphs.Inferred.{after, before, delta_or, moved, moved_at}
use Rattle.subsetter_variation.specs.Region.{times_axis_scalar, is_ignored, proportion, scalar, scalar_of, unit}
use Rattle.subsetter_variation.specs.VariationLaws.{IsExactAtPeak, IsFreeOfPosition, IsNothingAtDefault}
use Rattle.subsetter_variation.proofs.GlyphsLaws.Turning.{nearest_zero}

-- ---- at the peak

same_if : {A : Type 0} (b : Bool) (x y z : A) → x ≡ z → y ≡ z → cond b x y ≡ z
same_if true x y z e f = e
same_if false x y z e f = f

not_below : (z : ℤ) → int_lt z z ≡ false
not_below (pos n) = grind (arith, ints)
not_below (negsuc n) = grind (arith, ints)

counted_at_peak : (t : RegionAxis) (whole : ℤ) → times_axis_scalar t t.peak whole ≡ whole
unfolding times_axis_scalar
counted_at_peak t whole = rw (not_below t.peak) (same_if (is_ignored t) whole whole whole refl refl)

scalar_at_peak : (whole : ℤ) (region : List RegionAxis) → scalar_of whole region (map (λ t. t.peak) region) ≡ whole
scalar_at_peak whole [] = refl
scalar_at_peak whole (t ∷ region) = ap (λ z. scalar_of z region (map (λ u. u.peak) region)) (counted_at_peak t whole) ∙ scalar_at_peak whole region

pub is_exact_at_peak : IsExactAtPeak
unfolding moved
is_exact_at_peak region contour k p d e f =
    ap (λ s. moved contour k s) (scalar_at_peak unit region)
    ∙ ap (λ o. moved_at o (before contour k) (after contour k) unit) e
    ∙ ap (λ x. delta_or x p.at (before contour k) (after contour k) unit) f

-- ---- a contour of one point

pub is_free_of_place : IsFreeOfPosition
unfolding moved
is_free_of_place x y scalar None = refl
is_free_of_place x y scalar (Some d) = refl

-- ---- at the default

lt_pos : (p : ℕ) → int_lt (pos 0) (pos (suc p)) ≡ true
lt_pos p = grind (arith, ints)

le_pos : (s : ℕ) → int_le (pos 0) (pos s) ≡ true
le_pos s = grind (arith, ints)

lt_neg : (s n : ℕ) → int_lt (negsuc s) (pos n) ≡ true
lt_neg s n = grind (arith, ints)

first_of : (a b c d : Bool) → a ≡ true → (a || b || c || d) ≡ true
first_of true b c d e = refl
first_of false b c d e = absurd cc

second_of : (a b c d : Bool) → b ≡ true → (a || b || c || d) ≡ true
second_of true b c d e = refl
second_of false true c d e = refl
second_of false false c d e = absurd cc

third_of : (a b c d : Bool) → c ≡ true → (a || b || c || d) ≡ true
third_of true b c d e = refl
third_of false true c d e = refl
third_of false false true d e = refl
third_of false false false d e = absurd cc

fourth_of : (a b c d : Bool) → d ≡ true → (a || b || c || d) ≡ true
fourth_of true b c d e = refl
fourth_of false true c d e = refl
fourth_of false false true d e = refl
fourth_of false false false true e = refl
fourth_of false false false false e = absurd cc

not_both : (b : Bool) → b ≡ true → b ≡ false → ⊥
not_both b e f = let both = sym e ∙ f in cc

-- the cases of a region on one axis, by the signs of its start, its peak and its end
default_of : (s p e whole : ℤ) → is_ignored (record { start = s; peak = p; end = e }) ≡ false → times_axis_scalar (record { start = s; peak = p; end = e }) (pos 0) whole ≡ pos 0
unfolding times_axis_scalar
default_of s (pos zero) e whole h = absurd (not_both _ (first_of (int_eq (pos 0) (pos 0)) (int_lt (pos 0) s) (int_lt e (pos 0)) (int_lt s (pos 0) && int_lt (pos 0) e) refl) h)
default_of (pos s) (pos (suc p)) e whole h = rw (h, lt_pos p, le_pos s) refl
default_of (negsuc s) (pos (suc p)) (pos zero) whole h = absurd (not_both _ (third_of (int_eq (pos (suc p)) (pos 0)) (int_lt (pos (suc p)) (negsuc s)) (int_lt (pos 0) (pos (suc p))) (int_lt (negsuc s) (pos 0) && int_lt (pos 0) (pos 0)) (lt_pos p)) h)
default_of (negsuc s) (pos (suc p)) (pos (suc e)) whole h = absurd (not_both _ (fourth_of (int_eq (pos (suc p)) (pos 0)) (int_lt (pos (suc p)) (negsuc s)) (int_lt (pos (suc e)) (pos (suc p))) (int_lt (negsuc s) (pos 0) && int_lt (pos 0) (pos (suc e))) (rw (lt_neg s 0, lt_pos e) refl)) h)
default_of (negsuc s) (pos (suc p)) (negsuc e) whole h = absurd (not_both _ (third_of (int_eq (pos (suc p)) (pos 0)) (int_lt (pos (suc p)) (negsuc s)) (int_lt (negsuc e) (pos (suc p))) (int_lt (negsuc s) (pos 0) && int_lt (pos 0) (negsuc e)) (lt_neg e (suc p))) h)
default_of s (negsuc p) (pos zero) whole h = rw h refl
default_of s (negsuc p) (negsuc e) whole h = rw h refl
default_of (pos s) (negsuc p) (pos (suc e)) whole h = absurd (not_both _ (second_of (int_eq (negsuc p) (pos 0)) (int_lt (negsuc p) (pos s)) (int_lt (pos (suc e)) (negsuc p)) (int_lt (pos s) (pos 0) && int_lt (pos 0) (pos (suc e))) (lt_neg p s)) h)
default_of (negsuc s) (negsuc p) (pos (suc e)) whole h = absurd (not_both _ (fourth_of (int_eq (negsuc p) (pos 0)) (int_lt (negsuc p) (negsuc s)) (int_lt (pos (suc e)) (negsuc p)) (int_lt (negsuc s) (pos 0) && int_lt (pos 0) (pos (suc e))) (rw (lt_neg s 0, lt_pos e) refl)) h)

counted_at_default : (t : RegionAxis) (whole : ℤ) → is_ignored t ≡ false → times_axis_scalar t (pos 0) whole ≡ pos 0
counted_at_default t whole h = default_of t.start t.peak t.end whole h

proportion_of_none : (end peak at : ℤ) → proportion end peak at (pos 0) ≡ pos 0
unfolding proportion mul_div_nearest
proportion_of_none end peak at = nearest_zero (pos (unsigned_abs (at -ℤ end)) *ℤ pos 0) (unsigned_abs (peak -ℤ end)) (*ℤ-zero (pos (unsigned_abs (at -ℤ end))))

counted_of_none : (t : RegionAxis) (c : ℤ) → times_axis_scalar t c (pos 0) ≡ pos 0
unfolding times_axis_scalar
counted_of_none t c =
    same_if (is_ignored t) _ _ _ refl
    (same_if (int_lt c t.peak) _ _ _ (same_if (int_le c t.start) _ _ _ refl (proportion_of_none t.start t.peak c))
    (same_if (int_lt t.peak c) _ _ _ (same_if (int_le t.end c) _ _ _ refl (proportion_of_none t.end t.peak c)) refl))

pub scalar_of_none : (region : List RegionAxis) (at : List ℤ) → scalar_of (pos 0) region at ≡ pos 0
scalar_of_none [] at = refl
scalar_of_none (t ∷ region) [] = refl
scalar_of_none (t ∷ region) (c ∷ at) = ap (λ z. scalar_of z region at) (counted_of_none t c) ∙ scalar_of_none region at

nothing_from : (whole : ℤ) (region : List RegionAxis) (at : List ℤ) (k : ℕ) (t : RegionAxis) → length region ≡ length at → All (λ c. c ≡ pos 0) at → k < length region → is_ignored (get_or region k t) ≡ false → scalar_of whole region at ≡ pos 0
nothing_from whole [] at k t e z l h = absurd (omega arith)
nothing_from whole (u ∷ region) [] k t e z l h = absurd (omega arith)
nothing_from whole (u ∷ region) (c ∷ at) zero t e z l h =
    ap (λ x. scalar_of (times_axis_scalar u x whole) region at) (z 0 (pos 0) (omega arith))
    ∙ ap (λ x. scalar_of x region at) (counted_at_default u whole h)
    ∙ scalar_of_none region at
nothing_from whole (u ∷ region) (c ∷ at) (suc k) t e z l h = nothing_from (times_axis_scalar u c whole) region at k t (omega arith) (λ i d less. z (suc i) d (omega arith)) (omega arith) h

pub is_nothing_at_default : IsNothingAtDefault
is_nothing_at_default region at k t e z s h =
    nothing_from unit region at k t e z (slice_get_within region k t s) (ap is_ignored (get_or_from_slice_get region k t t s) ∙ h)
