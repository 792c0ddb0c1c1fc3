-- What comes of making a remapper of sorted glyphs, stated for the glyphs as they were given.
use Rattle.std.proofs.Common.{◌≡◌, ℕ, List, [], ◌∷◌, Result, Ok, Err, subst, sym, inl, inr, ◌⊎◌}
use Rattle.std.specs.Prelude.{IfOk, IfErr, OnOk}
use Rattle.std.specs.List.Sorted.{IsPermutation, IsSorted}
use Rattle.std.specs.Ordering.{nat_cmp}
use Rattle.std.proofs.lemmas.List.Sorted.{IsPermutation-sym}
use Rattle.subsetter_base.specs.Indexes.{with_glyphs, HasAllAboveZero, IsAscending}
use Rattle.subsetter_base.specs.declared.error.Error.{Error}
use Rattle.subsetter_base.specs.declared.error.Error.TheVariants.{OutOfMemory, OverflowError}
use Rattle.subsetter_base.proofs.GlyphLemmas.{ascending, HasAllAboveZero-permutation}

module _ (glyphs sorted : List ℕ) (r : Result (List ℕ) Error) (same : IsPermutation glyphs sorted) where
  pub ok_as : IsSorted nat_cmp sorted → IfOk r (λ l. l ≡ with_glyphs (0 ∷ []) sorted) → IfOk r (λ l. IsAscending glyphs l)
  ok_as order = elim r as (λ r. IfOk r (λ l. l ≡ with_glyphs (0 ∷ []) sorted) → IfOk r (λ l. IsAscending glyphs l)) [
    | Ok l ↦ λ is. subst (IsAscending glyphs) (sym is) (ascending glyphs sorted same order)
    | Err e ↦ λ h. h
  ]

  pub room_as : OnOk r (HasAllAboveZero sorted → ⊥) → OnOk r (HasAllAboveZero glyphs → ⊥)
  room_as = elim r as (λ r. OnOk r (HasAllAboveZero sorted → ⊥) → OnOk r (HasAllAboveZero glyphs → ⊥)) [
    | Ok l ↦ λ not all. not (HasAllAboveZero-permutation glyphs sorted same all)
    | Err e ↦ λ h. h
  ]

  pub err_as : IfErr r (λ e. (e ≡ OutOfMemory) ⊎ ((e ≡ OverflowError) × HasAllAboveZero sorted)) → IfErr r (λ e. (e ≡ OutOfMemory) ⊎ ((e ≡ OverflowError) × HasAllAboveZero glyphs))
  err_as = elim r as (λ r. IfErr r (λ e. (e ≡ OutOfMemory) ⊎ ((e ≡ OverflowError) × HasAllAboveZero sorted)) → IfErr r (λ e. (e ≡ OutOfMemory) ⊎ ((e ≡ OverflowError) × HasAllAboveZero glyphs))) [
    | Ok l ↦ λ h. h
    | Err e ↦ λ h. elim h [
      | inl memory ↦ inl memory
      | inr full ↦ inr (full.0, HasAllAboveZero-permutation sorted glyphs (IsPermutation-sym glyphs sorted same) full.1)
    ]
  ]
