-- One more step of the search for a string.
use Rattle.std.proofs.Common.{◌≡◌, ℕ, suc, ◌+◌, ◌-◌, ◌*◌, ◌<◌, ◌≤◌, List, [], ◌∷◌, length, Some, None, refl, ap, ◌∙◌, arith}
use Rattle.std.specs.Option.{option_or}
use Rattle.pdf_values.specs.declared.naming.Kind.{Kind}
use Rattle.pdf_values.specs.Name.{string_at, string_from}
use Rattle.subsetter_base.specs.Texts.{or_else}

module _ (kind : Kind) (id : ℕ) (name : List ℕ) (storage n i : ℕ) where
  strings_step : i < n → string_from kind id name storage (n - i) (6 + 12 * i) ≡ option_or (string_at kind id name storage (6 + 12 * i)) (string_from kind id name storage (n - (i + 1)) (6 + 12 * (i + 1)))
  unfolding string_from
  strings_step h =
      let left : n - i ≡ suc (n - (i + 1)) = omega arith in
      let next : 6 + 12 * i + 12 ≡ 6 + 12 * (i + 1) = omega arith in
      ap (λ k. string_from kind id name storage k (6 + 12 * i)) left ∙ ap (λ at. option_or (string_at kind id name storage (6 + 12 * i)) (string_from kind id name storage (n - (i + 1)) at)) next

  pub strings_here : {string : List ℕ} → string_at kind id name storage (6 + 12 * i) ≡ Some string → i < n → string_from kind id name storage (n - i) (6 + 12 * i) ≡ Some string
  strings_here s h = strings_step h ∙ ap (λ found. option_or found (string_from kind id name storage (n - (i + 1)) (6 + 12 * (i + 1)))) s

  pub strings_on : string_at kind id name storage (6 + 12 * i) ≡ None → i < n → string_from kind id name storage (n - i) (6 + 12 * i) ≡ string_from kind id name storage (n - (i + 1)) (6 + 12 * (i + 1))
  strings_on s h = strings_step h ∙ ap (λ found. option_or found (string_from kind id name storage (n - (i + 1)) (6 + 12 * (i + 1)))) s

  pub strings_end : n ≤ i → string_from kind id name storage (n - i) (6 + 12 * i) ≡ None
  unfolding string_from
  strings_end h = let none : n - i ≡ 0 = omega arith in ap (λ k. string_from kind id name storage k (6 + 12 * i)) none

-- a text that has characters is taken, and one that has none is passed over
pub or_kept : (text other : List ℕ) → 0 < length text → or_else text other ≡ text
or_kept [] other h = absurd (omega arith)
or_kept (b ∷ bytes) other h = refl

pub or_passed : (text other : List ℕ) → length text ≡ 0 → or_else text other ≡ other
or_passed [] other h = refl
or_passed (b ∷ bytes) other h = absurd (omega arith)
