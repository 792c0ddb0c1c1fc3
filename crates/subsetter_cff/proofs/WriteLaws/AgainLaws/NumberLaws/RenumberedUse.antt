-- What was renumbered in order is used in that order.
use Rattle.std.proofs.Common.{◌≡◌, ℕ, ltb, eqb, List, [], ◌∷◌, map, refl, ap, inl, inr}
use Rattle.std.specs.List.{AllByRecursion}
use Rattle.std.proofs.lemmas.Bool.{cases_Bool}
use Rattle.subsetter_base.specs.Indexes.{index_of}
use Rattle.subsetter_cff.specs.Write.Plain.{with_number, KeptGlyph, used_numbers}
use Rattle.subsetter_cff.proofs.WriteLaws.AgainLaws.NumberLaws.Renumbered.{KeepsOrder}

-- a glyph under its new number
abbrev pub renumbered : (ℕ → ℕ) → KeptGlyph → KeptGlyph
renumbered r k = record { number = r k.number; bytes = k.bytes }

module _ (r : ℕ → ℕ) (P : ℕ → Type 0) (order : KeepsOrder r P) where
  with_all : (n : ℕ) (ns : List ℕ) → P n → AllByRecursion P ns → AllByRecursion P (with_number n ns)
  with_all n [] h all = (h, tt)
  with_all n (m ∷ ns) h all =
      elim (cases_Bool (ltb n m)) [
        | inl less ↦ rw less (h, all)
        | inr not_less ↦ (elim (cases_Bool (eqb n m)) [
          | inl same ↦ rw (not_less, same) all
          | inr other ↦ rw (not_less, other) (all.0, with_all n ns h all.1)
        ])
      ]

  pub used_all : (ks : List KeptGlyph) → AllByRecursion (λ (k : KeptGlyph). P k.number) ks → AllByRecursion P (used_numbers ks)
  used_all [] all = tt
  used_all (k ∷ ks) all = with_all k.number (used_numbers ks) all.0 (used_all ks all.1)

  with_again : (n : ℕ) (ns : List ℕ) → P n → AllByRecursion P ns → with_number (r n) (map r ns) ≡ map r (with_number n ns)
  with_again n [] h all = refl
  with_again n (m ∷ ns) h all =
      let o = order n m h all.0 in
      elim (cases_Bool (ltb n m)) [
        | inl less ↦ rw (o.0, less) refl
        | inr not_less ↦ (elim (cases_Bool (eqb n m)) [
          | inl same ↦ rw (o.0, not_less, o.1, same) refl
          | inr other ↦ rw (o.0, not_less, o.1, other) (ap (λ (l : List ℕ). r m ∷ l) (with_again n ns h all.1))
        ])
      ]

  pub used_again : (ks : List KeptGlyph) → AllByRecursion (λ (k : KeptGlyph). P k.number) ks → used_numbers (map (renumbered r) ks) ≡ map r (used_numbers ks)
  used_again [] all = refl
  used_again (k ∷ ks) all = rw (used_again ks all.1) (with_again k.number (used_numbers ks) all.0 (used_all ks all.1))

  pub place_again : (ns : List ℕ) (n : ℕ) → P n → AllByRecursion P ns → index_of (map r ns) (r n) ≡ index_of ns n
  place_again [] n h all = refl
  place_again (m ∷ ns) n h all = rw ((order m n all.0 h).1, place_again ns n h all.1) refl
