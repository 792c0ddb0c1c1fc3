-- An inferred delta lies between its neighbours'.
use Rattle.std.proofs.Common.{◌≡◌, ℕ, suc, ◌+◌, ◌*◌, ◌/◌, ◌<◌, ◌≤◌, Bool, true, false, cond, ℤ, pos, negsuc, ◌+ℤ◌, ◌-ℤ◌, ◌*ℤ◌, ◌<ℤ◌, ◌≤ℤ◌, unsigned_abs, int_le, refl, ap, sym, subst, ◌∙◌, inl, inr, ◌⊎◌, arith, mul-le-mul}
use Rattle.std.specs.Ordering.{int_eq}
use borrow.Author.Differences.{up, down, sum_is_lem, product_is}
use Rattle.std.proofs.lemmas.Int.{by_lt_z, ints}
use Rattle.subsetter_variation.specs.declared.glyphs.inference.Touched.{Touched}
use Rattle.subsetter_variation.specs.Nearest.{nearest}
use Rattle.subsetter_variation.specs.Glyphs.Inferred.{between, between_ordered, interpolated}
use Rattle.subsetter_variation.specs.Glyphs.Moves.{IsBetween, IsBetweenNeighbours}
use Rattle.subsetter_variation.proofs.LocationsLaws.Bounds.{unequal}
use Rattle.subsetter_variation.proofs.Quotients.{above_within, half_within}

-- ---- rounding

quotient_large : (a b m : ℕ) → 0 < b → m * b ≤ a → m ≤ (2 * a + b) / (2 * b)
quotient_large a b m p h = grind arith

above_large : (a b m : ℕ) → 0 < b → m * b ≤ suc a → m ≤ (2 * a + 1 + b) / (2 * b)
above_large a b m p h = grind arith

nearest_from : (a m : ℤ) (b : ℕ) → 0 < b → (m *ℤ pos b) ≤ℤ a → m ≤ℤ nearest a b
unfolding nearest
nearest_from (pos a) (pos m) b p h = let q = quotient_large a b m p (omega (arith, ints)) in omega (arith, ints)
nearest_from (pos a) (negsuc m) b p h = omega (arith, ints)
nearest_from (negsuc a) (pos m) b p h = absurd (omega (arith, ints))
nearest_from (negsuc a) (negsuc m) b p h = let q = above_within a b (suc m) p (omega (arith, ints, product_is (negsuc m) (pos b))) in omega (arith, ints)

nearest_to : (a m : ℤ) (b : ℕ) → 0 < b → a ≤ℤ (m *ℤ pos b) → nearest a b ≤ℤ m
unfolding nearest
nearest_to (pos a) (pos m) b p h = let q = half_within a b m p (omega (arith, ints)) in omega (arith, ints)
nearest_to (pos a) (negsuc m) b p h = absurd (omega (arith, ints, product_is (negsuc m) (pos b)))
nearest_to (negsuc a) (pos m) b p h = omega (arith, ints)
nearest_to (negsuc a) (negsuc m) b p h = let q = above_large a b (suc m) p (omega (arith, ints, product_is (negsuc m) (pos b))) in omega (arith, ints)

-- ---- products

distrib : (s a b : ℤ) → s *ℤ (a +ℤ b) ≡ s *ℤ a +ℤ s *ℤ b
distrib s a b =
    let e = sum_is_lem a b in
    let u = ap (λ n. up s * n) e in
    let d = ap (λ n. down s * n) e in
    omega (arith, ints, product_is s (a +ℤ b), product_is s a, product_is s b, u, d)

assoc : (s a b : ℤ) → s *ℤ (a *ℤ b) ≡ (s *ℤ a) *ℤ b
assoc s a b =
    let e = product_is s a in
    let f = product_is a b in
    let e1 = ap (λ n. n * up b) e.0 in
    let e2 = ap (λ n. n * down b) e.0 in
    let e3 = ap (λ n. n * up b) e.1 in
    let e4 = ap (λ n. n * down b) e.1 in
    let f1 = ap (λ n. up s * n) f.0 in
    let f2 = ap (λ n. down s * n) f.0 in
    let f3 = ap (λ n. up s * n) f.1 in
    let f4 = ap (λ n. down s * n) f.1 in
    omega (arith, ints, product_is s (a *ℤ b), product_is (s *ℤ a) b)

mono : (a b : ℤ) (n : ℕ) → a ≤ℤ b → (a *ℤ pos n) ≤ℤ (b *ℤ pos n)
mono a b n h =
    let g : up a + down b ≤ up b + down a = omega (arith, ints) in
    let m : (up a + down b) * n ≤ (up b + down a) * n = mul-le-mul g (omega arith) in
    omega (arith, ints, product_is a (pos n), product_is b (pos n))

-- the weighed sum of two deltas, times the scalar
weighed : (s l h : ℤ) (p q : ℕ) → s *ℤ (l *ℤ pos p +ℤ h *ℤ pos q) ≡ (s *ℤ l) *ℤ pos p +ℤ (s *ℤ h) *ℤ pos q
weighed s l h p q = distrib s (l *ℤ pos p) (h *ℤ pos q) ∙ ap (λ a. a +ℤ s *ℤ (h *ℤ pos q)) (assoc s l (pos p)) ∙ ap (λ a. (s *ℤ l) *ℤ pos p +ℤ a) (assoc s h (pos q))

whole : (a : ℤ) (p q : ℕ) → a *ℤ pos (p + q) ≡ a *ℤ pos p +ℤ a *ℤ pos q
whole a p q = omega (arith, ints, product_is a (pos (p + q)), product_is a (pos p), product_is a (pos q))

order : (a b : ℤ) → (a ≤ℤ b) ⊎ (b ≤ℤ a)
order a b = by_lt_z a b (λ h. inl (omega (arith, ints))) (λ h. inr h)

-- ---- between

weighed_between : (s l h : ℤ) (p q : ℕ) → 0 < p + q → IsBetween (nearest (s *ℤ (l *ℤ pos p +ℤ h *ℤ pos q)) (p + q)) (s *ℤ l) (s *ℤ h)
weighed_between s l h p q w =
    let v = s *ℤ (l *ℤ pos p +ℤ h *ℤ pos q) in
    let e = weighed s l h p q in
    let a = whole (s *ℤ l) p q in
    let b = whole (s *ℤ h) p q in
    elim (order (s *ℤ l) (s *ℤ h)) [
      | inl g ↦ inl (
        (let i = mono (s *ℤ l) (s *ℤ h) q g in nearest_from v (s *ℤ l) (p + q) w (omega (arith, ints))),
        (let i = mono (s *ℤ l) (s *ℤ h) p g in nearest_to v (s *ℤ h) (p + q) w (omega (arith, ints))),
      )
      | inr g ↦ inr (
        (let i = mono (s *ℤ h) (s *ℤ l) p g in nearest_from v (s *ℤ h) (p + q) w (omega (arith, ints))),
        (let i = mono (s *ℤ h) (s *ℤ l) q g in nearest_to v (s *ℤ l) (p + q) w (omega (arith, ints))),
      )
    ]

interpolated_between : (x : ℤ) (low high : Touched) (s : ℤ) → low.at <ℤ x → x <ℤ high.at → IsBetween (interpolated x low high s) (s *ℤ low.delta) (s *ℤ high.delta)
unfolding interpolated
interpolated_between x low high s a b =
    let p = unsigned_abs (high.at -ℤ x) in
    let q = unsigned_abs (x -ℤ low.at) in
    let ep : high.at -ℤ x ≡ pos (unsigned_abs (high.at -ℤ x)) = omega (arith, ints) in
    let eq : x -ℤ low.at ≡ pos (unsigned_abs (x -ℤ low.at)) = omega (arith, ints) in
    let ew : unsigned_abs (high.at -ℤ low.at) ≡ unsigned_abs (high.at -ℤ x) + unsigned_abs (x -ℤ low.at) = omega (arith, ints) in
    let v = ap (λ n. nearest (s *ℤ (low.delta *ℤ n +ℤ high.delta *ℤ (x -ℤ low.at))) (unsigned_abs (high.at -ℤ low.at))) ep
    ∙ ap (λ n. nearest (s *ℤ (low.delta *ℤ pos p +ℤ high.delta *ℤ n)) (unsigned_abs (high.at -ℤ low.at))) eq
    ∙ ap (λ w. nearest (s *ℤ (low.delta *ℤ pos p +ℤ high.delta *ℤ pos q)) w) ew in
    subst (λ z. IsBetween z (s *ℤ low.delta) (s *ℤ high.delta)) (sym v) (weighed_between s low.delta high.delta p q (omega (arith, ints)))

at_low : (a b : ℤ) → IsBetween a a b
at_low a b = elim (order a b) [ inl h ↦ inl (omega (arith, ints), h) | inr h ↦ inr (h, omega (arith, ints)) ]

at_high : (a b : ℤ) → IsBetween b a b
at_high a b = elim (order a b) [ inl h ↦ inl (h, omega (arith, ints)) | inr h ↦ inr (omega (arith, ints), h) ]

past_high : (x : ℤ) (low high : Touched) (s : ℤ) (b : Bool) → int_le high.at x ≡ b → low.at <ℤ x → IsBetween (cond b (s *ℤ high.delta) (interpolated x low high s)) (s *ℤ low.delta) (s *ℤ high.delta)
past_high x low high s true e h = at_high (s *ℤ low.delta) (s *ℤ high.delta)
past_high x low high s false e h = interpolated_between x low high s h (grind (arith, ints))

past_low : (x : ℤ) (low high : Touched) (s : ℤ) (b : Bool) → int_le x low.at ≡ b → IsBetween (cond b (s *ℤ low.delta) (cond (int_le high.at x) (s *ℤ high.delta) (interpolated x low high s))) (s *ℤ low.delta) (s *ℤ high.delta)
past_low x low high s true e = at_low (s *ℤ low.delta) (s *ℤ high.delta)
past_low x low high s false e = past_high x low high s (int_le high.at x) refl (grind (arith, ints))

ordered_between : (x : ℤ) (low high : Touched) (s : ℤ) → int_eq low.at high.at ≡ false → IsBetween (between_ordered x low high s) (s *ℤ low.delta) (s *ℤ high.delta)
unfolding between_ordered
ordered_between x low high s e = rw e (past_low x low high s (int_le x low.at) refl)

swapped : (z a b : ℤ) → IsBetween z a b → IsBetween z b a
swapped z a b (inl h) = inr h
swapped z a b (inr h) = inl h

either : (x : ℤ) (one other : Touched) (s : ℤ) (b : Bool) → int_eq one.at other.at ≡ false → int_eq other.at one.at ≡ false → IsBetween (cond b (between_ordered x one other s) (between_ordered x other one s)) (s *ℤ one.delta) (s *ℤ other.delta)
either x one other s true e f = ordered_between x one other s e
either x one other s false e f = swapped (between_ordered x other one s) (s *ℤ other.delta) (s *ℤ one.delta) (ordered_between x other one s f)

pub lies_between : IsBetweenNeighbours
unfolding between
lies_between x one other s h = either x one other s (int_le one.at other.at) (unequal one.at other.at h) (unequal other.at one.at (λ e. h (sym e)))
