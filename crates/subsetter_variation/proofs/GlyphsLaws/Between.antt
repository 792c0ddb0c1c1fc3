-- The cases of an inferred delta, and how large it is.
use Rattle.std.proofs.Common.{◌≡◌, ℕ, ◌+◌, ◌*◌, ◌<◌, ◌≤◌, true, false, ℤ, ◌+ℤ◌, ◌-ℤ◌, ◌*ℤ◌, ◌<ℤ◌, int_le, unsigned_abs, arith, mul-le-mul}
use Rattle.std.specs.Ordering.{int_eq}
use Rattle.std.proofs.lemmas.Int.{ints, unsigned_abs-mul}
use Rattle.subsetter_variation.specs.declared.glyphs.inference.Touched.{Touched}
use Rattle.subsetter_variation.proofs.Quotients.{nearest_within}
use Rattle.subsetter_variation.specs.Glyphs.Inferred.{between_ordered, interpolated}

pub below : (x : ℤ) (low high : Touched) (scalar : ℤ) → int_eq low.at high.at ≡ false → int_le x low.at ≡ true → between_ordered x low high scalar ≡ scalar *ℤ low.delta
unfolding between_ordered
below x low high scalar e f = rw (e, f)

pub above : (x : ℤ) (low high : Touched) (scalar : ℤ) → int_eq low.at high.at ≡ false → int_le x low.at ≡ false → int_le high.at x ≡ true → between_ordered x low high scalar ≡ scalar *ℤ high.delta
unfolding between_ordered
above x low high scalar e f g = rw (e, f, g)

abs_add : (a b : ℤ) → unsigned_abs (a +ℤ b) ≤ unsigned_abs a + unsigned_abs b
abs_add a b = omega (arith, ints)

blend_small : (l h p q : ℤ) (m : ℕ) → unsigned_abs l ≤ m → unsigned_abs h ≤ m → unsigned_abs (l *ℤ p +ℤ h *ℤ q) ≤ m * (unsigned_abs p + unsigned_abs q)
blend_small l h p q m e f =
    let a = abs_add (l *ℤ p) (h *ℤ q) in
    let b = unsigned_abs-mul l p in
    let c = unsigned_abs-mul h q in
    let d : unsigned_abs l * unsigned_abs p ≤ m * unsigned_abs p = grind arith in
    let g : unsigned_abs h * unsigned_abs q ≤ m * unsigned_abs q = grind arith in
    omega arith

scaled_small : (s t : ℤ) (n m w : ℕ) → unsigned_abs s ≤ n → unsigned_abs t ≤ m * w → unsigned_abs (s *ℤ t) ≤ n * m * w
scaled_small s t n m w e f =
    let a = unsigned_abs-mul s t in
    let b : unsigned_abs s * unsigned_abs t ≤ n * (m * w) = mul-le-mul e f in
    omega arith

-- a delta that is inferred between two deltas within m is within m times the scalar's bound
pub interpolated_small : (x : ℤ) (low high : Touched) (scalar : ℤ) (n m : ℕ) → low.at <ℤ x → x <ℤ high.at → unsigned_abs low.delta ≤ m → unsigned_abs high.delta ≤ m → unsigned_abs scalar ≤ n → unsigned_abs (interpolated x low high scalar) ≤ n * m
unfolding interpolated
interpolated_small x low high scalar n m a b l h s =
    let w : unsigned_abs (high.at -ℤ x) + unsigned_abs (x -ℤ low.at) ≡ unsigned_abs (high.at -ℤ low.at) = omega (arith, ints) in
    let p : 0 < unsigned_abs (high.at -ℤ low.at) = omega (arith, ints) in
    let t : unsigned_abs (low.delta *ℤ (high.at -ℤ x) +ℤ high.delta *ℤ (x -ℤ low.at)) ≤ m * unsigned_abs (high.at -ℤ low.at) = rw w at (blend_small low.delta high.delta (high.at -ℤ x) (x -ℤ low.at) m l h) in
    let v = low.delta *ℤ (high.at -ℤ x) +ℤ high.delta *ℤ (x -ℤ low.at) in
    nearest_within (scalar *ℤ v) (unsigned_abs (high.at -ℤ low.at)) (n * m) p (scaled_small scalar v n m (unsigned_abs (high.at -ℤ low.at)) s t)
