-- The numbers of used font dicts, renumbered in order.
use Rattle.std.proofs.Common.{◌≡◌, ℕ, zero, suc, ◌<◌, false, ltb, eqb, List, [], ◌∷◌, Some, ap, arith, inl, inr, ◌∙◌, sym}
use Rattle.std.specs.Prelude.{slice_get, unwrap_or}
use Rattle.std.specs.List.{AllByRecursion}
use Rattle.std.proofs.lemmas.Bool.{cases_Bool, cases_lt, lt-ltb, ltb-true}
use Rattle.std.proofs.lemmas.Option.{none-some, same_Some}
use Rattle.subsetter_base.specs.Indexes.{index_of}
use Rattle.subsetter_cff.specs.Write.Plain.{with_number, KeptGlyph, used_numbers}
use Rattle.subsetter_cff.proofs.ReadLaws.Results.{In, number_there}

-- ---- used numbers ascend
abbrev pub Ascends : List ℕ → Type 0
Ascends [] = Unit {0}
Ascends (n ∷ ns) = AllByRecursion (λ m. n < m) ns × Ascends ns

above : (k n : ℕ) (ns : List ℕ) → k < n → AllByRecursion (λ m. n < m) ns → AllByRecursion (λ m. k < m) ns
above k n [] lt all = tt
above k n (m ∷ ns) lt all = (omega (arith, lt, all.0), above k n ns lt all.1)

above_with : (k n : ℕ) (ns : List ℕ) → k < n → AllByRecursion (λ m. k < m) ns → AllByRecursion (λ m. k < m) (with_number n ns)
above_with k n [] lt all = (lt, tt)
above_with k n (m ∷ ns) lt all =
    elim (cases_Bool (ltb n m)) [
      | inl less ↦ rw less (lt, all)
      | inr not_less ↦ rw not_less (elim (cases_Bool (eqb n m)) [
        | inl same ↦ rw same all
        | inr other ↦ rw other (all.0, above_with k n ns lt all.1)
      ])
    ]

less_left : (n m : ℕ) → ltb n m ≡ false → eqb n m ≡ false → m < n
less_left n m not_less other =
    elim (cases_lt m n) [
      | inl lt ↦ lt
      | inr le ↦ (elim (cases_lt n m) [
        | inl lt ↦ absurd (grind (arith, not_less, lt-ltb n m lt))
        | inr le' ↦ absurd (grind (arith, other, le, le'))
      ])
    ]

with_ascends : (n : ℕ) (ns : List ℕ) → Ascends ns → Ascends (with_number n ns)
with_ascends n [] all = (tt, tt)
with_ascends n (m ∷ ns) all =
    elim (cases_Bool (ltb n m)) [
      | inl less ↦ rw less ((ltb-true n m less, above n m ns (ltb-true n m less) all.0), all)
      | inr not_less ↦ (elim (cases_Bool (eqb n m)) [
        | inl same ↦ rw (not_less, same) all
        | inr other ↦ rw (not_less, other) (above_with m n ns (less_left n m not_less other) all.0, with_ascends n ns all.1)
      ])
    ]

pub used_ascends : (ks : List KeptGlyph) → Ascends (used_numbers ks)
used_ascends [] = tt
used_ascends (k ∷ ks) = with_ascends k.number (used_numbers ks) (used_ascends ks)

at_above : (n : ℕ) (ns : List ℕ) (j b : ℕ) → AllByRecursion (λ m. n < m) ns → slice_get ns j ≡ Some b → n < b
at_above n [] j b all at = absurd (none-some b at)
at_above n (m ∷ ns) zero b all at = omega (arith, all.0, same_Some _ _ at)
at_above n (m ∷ ns) (suc j) b all at = at_above n ns j b all.1 at

get_ascends : (ns : List ℕ) (i j a b : ℕ) → Ascends ns → i < j → slice_get ns i ≡ Some a → slice_get ns j ≡ Some b → a < b
get_ascends [] i j a b all lt at at' = absurd (none-some a at)
get_ascends (n ∷ ns) i zero a b all lt at at' = absurd (omega (arith, lt))
get_ascends (n ∷ ns) zero (suc j) a b all lt at at' = omega (arith, at_above n ns j b all.0 at', same_Some _ _ at)
get_ascends (n ∷ ns) (suc i) (suc j) a b all lt at at' = get_ascends ns i j a b all.1 (omega (arith, lt)) at at'

-- ---- a new number for each
abbrev pub new_number : List ℕ → ℕ → ℕ
new_number used n = unwrap_or (index_of used n) 0

-- numbers are renumbered in order
abbrev pub KeepsOrder : (ℕ → ℕ) → (ℕ → Type 0) → Type 0
KeepsOrder r P = (n m : ℕ) → P n → P m → (ltb (r n) (r m) ≡ ltb n m) × (eqb (r n) (r m) ≡ eqb n m)

same_order : (i j n m : ℕ) → (i < j → n < m) → (j < i → m < n) → (i ≡ j → n ≡ m) → (ltb i j ≡ ltb n m) × (eqb i j ≡ eqb n m)
same_order i j n m f g h =
    elim (cases_lt i j) [
      | inl lt ↦ (let lt' = f lt in (grind (arith, lt, lt'), grind (arith, lt, lt')))
      | inr le ↦ (elim (cases_lt j i) [
        | inl lt ↦ (let lt' = g lt in (grind (arith, lt, lt'), grind (arith, lt, lt')))
        | inr le' ↦ (let same : i ≡ j = omega (arith, le, le') in let same' = h same in (grind (arith, same, same'), grind (arith, same, same')))
      ])
    ]

pub keeps_order : (used : List ℕ) → Ascends used → KeepsOrder (new_number used) (In used)
keeps_order used all n m a b =
    let p = number_there used n a.at a.is in
    let q = number_there used m b.at b.is in
    rw (a.is, b.is) (same_order a.at b.at n m (λ lt. get_ascends used a.at b.at n m all lt p q) (λ lt. get_ascends used b.at a.at m n all lt q p)
    (λ e. same_Some _ _ (sym p ∙ ap (slice_get used) e ∙ q)))
