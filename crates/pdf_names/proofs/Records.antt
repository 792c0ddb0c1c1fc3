-- One more record of a named instance.
use Rattle.std.proofs.Common.{◌≡◌, ℕ, ℤ, suc, ◌+◌, ◌-◌, ◌<◌, List, Option, Some, None, true, false, refl, sym, ap, ◌∙◌, arith}
use Rattle.std.specs.Prelude.{is_some}
use Rattle.subsetter_base.specs.Bytes.{range}
use Rattle.subsetter_base.specs.declared.tag.Tag.{Tag}
use Rattle.subsetter_variation.specs.declared.locations.axes.Axis.{Axis}
use Rattle.pdf_names.specs.Instances.{past_flags, record_from}

one_more : (n i : ℕ) → i < n → n - i ≡ suc (n - (i + 1))
one_more n i less = omega arith

module _ (axes : List Axis) (settings : List (Tag × ℤ)) (fvar : List ℕ) (size n i at : ℕ) (total : Option (List ℕ)) where
  pub record_here : (bytes : List ℕ) → i < n → range fvar at size ≡ Some bytes → is_some (past_flags axes settings bytes) ≡ true → record_from axes settings fvar size (n - i) at ≡ total → Some bytes ≡ total
  record_here bytes less h is t =
      let first : record_from axes settings fvar size (suc (n - (i + 1))) at ≡ Some bytes = rw (h, is) refl in
      sym first ∙ (ap (λ (k : ℕ). record_from axes settings fvar size k at) (sym (one_more n i less)) ∙ t)

  pub record_later : (bytes : List ℕ) → i < n → range fvar at size ≡ Some bytes → is_some (past_flags axes settings bytes) ≡ false → record_from axes settings fvar size (n - i) at ≡ total → record_from axes settings fvar size (n - (i + 1)) (at + size) ≡ total
  record_later bytes less h is t =
      let later : record_from axes settings fvar size (suc (n - (i + 1))) at ≡ record_from axes settings fvar size (n - (i + 1)) (at + size) = rw (h, is) refl in
      sym later ∙ (ap (λ (k : ℕ). record_from axes settings fvar size k at) (sym (one_more n i less)) ∙ t)

  pub record_cut : i < n → range fvar at size ≡ None → record_from axes settings fvar size (n - i) at ≡ total → None ≡ total
  record_cut less h t =
      let cut : record_from axes settings fvar size (suc (n - (i + 1))) at ≡ None = rw h refl in
      sym cut ∙ (ap (λ (k : ℕ). record_from axes settings fvar size k at) (sym (one_more n i less)) ∙ t)
