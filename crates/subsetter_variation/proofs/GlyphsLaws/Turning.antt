-- Laws of what a tuple moves the points of a contour by.
use Rattle.std.proofs.Common.{◌≡◌, ℕ, zero, suc, ◌+◌, ◌*◌, ◌/◌, Bool, true, false, cond, List, [], ◌∷◌, ◌++◌, get_or, take, drop, Option, Some, None, ℤ, pos, ◌*ℤ◌, ◌+ℤ◌, ◌-ℤ◌, unsigned_abs, int_le, refl, ap, sym, ◌∙◌, slice_get, inl, inr, ◌⊎◌, arith}
use Rattle.std.specs.Option.{option_or, option_map}
use Rattle.std.proofs.lemmas.List.{take-append-drop}
use Rattle.std.proofs.lemmas.List.Elements.{All-drop, All-take}
use Rattle.std.proofs.lemmas.Option.{same_Some, get_or_from_slice_get, slice_get_within, slice_get-get_or}
use Rattle.std.proofs.lemmas.Bool.Decides.{Decides-int_eq}
use Rattle.std.proofs.Math.IntN.{zero-*ℤ}
use Rattle.subsetter_variation.specs.declared.glyphs.inference.Point.{Point}
use Rattle.subsetter_variation.specs.declared.glyphs.inference.Touched.{Touched}
use Rattle.subsetter_variation.specs.Nearest.{nearest}
use Rattle.subsetter_variation.specs.Glyphs.Inferred.{after, before, between, between_ordered, delta_or, first_touched, inferred, interpolated, last_touched, moved, moved_at, touched}
use Rattle.subsetter_variation.specs.Glyphs.Moves.{IsOnly, IsShift, IsZeroAtScalarZero, IsRotated, rotated}
use Rattle.subsetter_variation.proofs.Quotients.{half_within}
use Rattle.subsetter_variation.proofs.GlyphsLaws.Walk.{first_touched-drop, or_assoc, or_none}

-- ---- the contour turned

first_touched-append : (xs ys : List Point) → first_touched (xs ++ ys) ≡ option_or (first_touched xs) (first_touched ys)
first_touched-append [] ys = refl
first_touched-append (x ∷ xs) ys = ap (λ o. option_or (touched x) o) (first_touched-append xs ys) ∙ sym (or_assoc (touched x) (first_touched xs) (first_touched ys))

last_touched-append : (xs ys : List Point) → last_touched (xs ++ ys) ≡ option_or (last_touched ys) (last_touched xs)
last_touched-append [] ys = sym (or_none (last_touched ys))
last_touched-append (x ∷ xs) ys = ap (λ o. option_or o (touched x)) (last_touched-append xs ys) ∙ or_assoc (last_touched ys) (last_touched xs) (touched x)

or_again : (a b : Option Touched) → option_or a (option_or b a) ≡ option_or a b
or_again None b = or_none b
or_again (Some x) b = refl

before_turned : (c : List Point) (k : ℕ) → before c k ≡ last_touched (rotated c k)
before_turned c k =
    ap (λ xs. option_or (last_touched (take k c)) (last_touched xs)) (sym (take-append-drop k c))
    ∙ ap (λ o. option_or (last_touched (take k c)) o) (last_touched-append (take k c) (drop k c))
    ∙ or_again (last_touched (take k c)) (last_touched (drop k c))
    ∙ sym (last_touched-append (drop k c) (take k c))

after_turned : (c : List Point) (k : ℕ) → first_touched (drop k c) ≡ first_touched (drop (k + 1) c) → after c k ≡ first_touched (rotated c k)
after_turned c k e =
    ap (λ o. option_or o (first_touched c)) (sym e)
    ∙ ap (λ xs. option_or (first_touched (drop k c)) (first_touched xs)) (sym (take-append-drop k c))
    ∙ ap (λ o. option_or (first_touched (drop k c)) o) (first_touched-append (take k c) (drop k c))
    ∙ or_again (first_touched (drop k c)) (first_touched (take k c))
    ∙ sym (first_touched-append (drop k c) (take k c))

pub is_turned : IsRotated
unfolding moved
is_turned c k p s e n =
    let g = get_or_from_slice_get c k p p e in
    let f : first_touched (drop k c) ≡ first_touched (drop (k + 1) c) = first_touched-drop c k p (slice_get_within c k p e) ∙ ap (λ q. option_or (touched q) (first_touched (drop (k + 1) c))) g ∙ ap (λ d. option_or (option_map (λ x. record { at = p.at; delta = x }) d) (first_touched (drop (k + 1) c))) n in
    ap (λ o. moved_at o (before c k) (after c k) s) e
    ∙ ap (λ d. delta_or d p.at (before c k) (after c k) s) n
    ∙ ap (λ o. inferred p.at o (after c k) s) (before_turned c k)
    ∙ ap (λ o. inferred p.at (last_touched (rotated c k)) o s) (after_turned c k f)

-- ---- the scalar 0

half_zero : (b : ℕ) → (2 * 0 + b) / (2 * b) ≡ 0
half_zero zero = refl
half_zero (suc n) = omega (arith, half_within 0 (suc n) 0 (omega arith) (omega arith))

pub nearest_zero : (a : ℤ) (b : ℕ) → a ≡ pos 0 → nearest a b ≡ pos 0
unfolding nearest
nearest_zero a b e = rw e (ap pos (half_zero b))

interpolated_still : (x : ℤ) (low high : Touched) → interpolated x low high (pos 0) ≡ pos 0
unfolding interpolated
interpolated_still x low high = nearest_zero (pos 0 *ℤ (low.delta *ℤ (high.at -ℤ x) +ℤ high.delta *ℤ (x -ℤ low.at))) (unsigned_abs (high.at -ℤ low.at)) (zero-*ℤ (low.delta *ℤ (high.at -ℤ x) +ℤ high.delta *ℤ (x -ℤ low.at)))

cond_same : (b : Bool) (x y z : ℤ) → x ≡ z → y ≡ z → cond b x y ≡ z
cond_same true x y z e f = e
cond_same false x y z e f = f

ordered_still : (x : ℤ) (low high : Touched) → between_ordered x low high (pos 0) ≡ pos 0
unfolding between_ordered
ordered_still x low high = cond_same _ _ _ _ (cond_same _ _ _ _ (zero-*ℤ low.delta) refl) (cond_same _ _ _ _ (zero-*ℤ low.delta) (cond_same _ _ _ _ (zero-*ℤ high.delta) (interpolated_still x low high)))

between_still : (x : ℤ) (one other : Touched) → between x one other (pos 0) ≡ pos 0
unfolding between
between_still x one other = cond_same _ _ _ _ (ordered_still x one other) (ordered_still x other one)

inferred_still : (x : ℤ) (one other : Option Touched) → inferred x one other (pos 0) ≡ pos 0
inferred_still x None other = refl
inferred_still x (Some one) None = refl
inferred_still x (Some one) (Some other) = between_still x one other

delta_or_still : (d : Option ℤ) (x : ℤ) (one other : Option Touched) → delta_or d x one other (pos 0) ≡ pos 0
delta_or_still None x one other = inferred_still x one other
delta_or_still (Some d) x one other = zero-*ℤ d

moved_at_still : (o : Option Point) (one other : Option Touched) → moved_at o one other (pos 0) ≡ pos 0
moved_at_still None one other = refl
moved_at_still (Some p) one other = delta_or_still p.delta p.at one other

pub is_still : IsZeroAtScalarZero
unfolding moved
is_still c k = moved_at_still (slice_get c k) (before c k) (after c k)

-- ---- one touched point

-- the first and the last touched point, where none is touched but like t
IsAlike : Touched → List Point → Type 0
IsAlike t xs = ((first_touched xs ≡ None) × (last_touched xs ≡ None)) ⊎ ((first_touched xs ≡ Some t) × (last_touched xs ≡ Some t))

alike_more : (t : Touched) (x : Point) (xs : List Point) → (touched x ≡ None) ⊎ (touched x ≡ Some t) → IsAlike t xs → IsAlike t (x ∷ xs)
unfolding IsAlike
alike_more t x xs (inl e) (inl h) = inl (ap (λ o. option_or o (first_touched xs)) e ∙ h.0, ap (λ o. option_or o (touched x)) h.1 ∙ e)
alike_more t x xs (inl e) (inr h) = inr (ap (λ o. option_or o (first_touched xs)) e ∙ h.0, ap (λ o. option_or o (touched x)) h.1)
alike_more t x xs (inr e) (inl h) = inr (ap (λ o. option_or o (first_touched xs)) e, ap (λ o. option_or o (touched x)) h.1 ∙ e)
alike_more t x xs (inr e) (inr h) = inr (ap (λ o. option_or o (first_touched xs)) e, ap (λ o. option_or o (touched x)) h.1)

alike : (t : Touched) (xs : List Point) → IsOnly t xs → IsAlike t xs
unfolding IsAlike
alike t [] h = inl (refl, refl)
alike t (x ∷ xs) h = alike_more t x xs (h 0 x (omega arith)) (alike t xs (λ k d l. h (suc k) d (omega arith)))

first_or : (t : Touched) (xs : List Point) (o : Option Touched) → IsAlike t xs → o ≡ Some t → option_or (first_touched xs) o ≡ Some t
unfolding IsAlike
first_or t xs o (inl h) e = ap (λ p. option_or p o) h.0 ∙ e
first_or t xs o (inr h) e = ap (λ p. option_or p o) h.0

last_or : (t : Touched) (xs : List Point) (o : Option Touched) → IsAlike t xs → o ≡ Some t → option_or (last_touched xs) o ≡ Some t
unfolding IsAlike
last_or t xs o (inl h) e = ap (λ p. option_or p o) h.1 ∙ e
last_or t xs o (inr h) e = ap (λ p. option_or p o) h.1

first_too : (t : Touched) (xs : List Point) → IsAlike t xs → last_touched xs ≡ Some t → first_touched xs ≡ Some t
unfolding IsAlike
first_too t xs (inl h) e = cc
first_too t xs (inr h) e = h.0

between_one : (x : ℤ) (t : Touched) (s : ℤ) → between x t t s ≡ s *ℤ t.delta
unfolding between between_ordered
between_one x t s =
    let a = (Decides-int_eq t.at t.at).1 refl in
    let d = (Decides-int_eq t.delta t.delta).1 refl in
    let e : between_ordered x t t s ≡ s *ℤ t.delta = rw (a, d) in
    cond_same (int_le t.at t.at) (between_ordered x t t s) (between_ordered x t t s) (s *ℤ t.delta) e e

delta_or_one : (d : Option ℤ) (x s : ℤ) (t : Touched) (one other : Option Touched) → (option_map {U = Touched} (λ y. record { at = x; delta = y }) d ≡ None) ⊎ (option_map {U = Touched} (λ y. record { at = x; delta = y }) d ≡ Some t) → one ≡ Some t → other ≡ Some t → delta_or d x one other s ≡ s *ℤ t.delta
delta_or_one None x s t one other h a b = ap (λ o. inferred x o other s) a ∙ ap (λ o. inferred x (Some t) o s) b ∙ between_one x t s
delta_or_one (Some d) x s t one other (inl e) a b = cc
delta_or_one (Some d) x s t one other (inr e) a b = ap (λ u. s *ℤ u.delta) (same_Some (record { at = x; delta = d }) t e)

pub is_shift : IsShift
unfolding moved
is_shift c k t s l only e =
    let none : Point = record { at = pos 0; delta = None } in
    let p = get_or c k none in
    let first = first_too t c (alike t c only) e in
    let b = last_or t (take k c) (last_touched c) (alike t (take k c) (All-take (λ q. (touched q ≡ None) ⊎ (touched q ≡ Some t)) k c only)) e in
    let a = first_or t (drop (k + 1) c) (first_touched c) (alike t (drop (k + 1) c) (All-drop (λ q. (touched q ≡ None) ⊎ (touched q ≡ Some t)) (k + 1) c only)) first in
    ap (λ o. moved_at o (before c k) (after c k) s) (slice_get-get_or c k none l)
    ∙ delta_or_one p.delta p.at s t (before c k) (after c k) (only k none l) b a
