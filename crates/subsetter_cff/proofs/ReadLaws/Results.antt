-- The steps of an answer, and places in lists of numbers.
use Rattle.std.proofs.Common.{◌≡◌, ℕ, suc, ◌+◌, Bool, true, false, eqb, List, [], ◌∷◌, Option, Some, None, refl, ap, arith, inl, inr, ◌⊎◌}
use Rattle.std.specs.Prelude.{slice_get, Result, Ok, Err}
use Rattle.std.specs.Option.{option_map, ok_or}
use Rattle.std.proofs.lemmas.Bool.{cases_Bool, eqb-true}
use Rattle.std.proofs.lemmas.Option.{none-some, same_Some}
use Rattle.subsetter_base.specs.Bytes.{◌>>=◌}
use Rattle.subsetter_base.specs.Indexes.{index_of}
use Rattle.subsetter_base.specs.declared.error.Error.{Error}
use Rattle.subsetter_cff.specs.Read.Opened.{check}

pub bind_ok : {A B E : Type 0} (r : Result A E) (f : A → Result B E) (y : B) → r >>= f ≡ Ok y → (x : A) × ((r ≡ Ok x) × (f x ≡ Ok y))
bind_ok (Ok x) f y e = (x, (refl, e))
bind_ok (Err z) f y e = absurd cc

pub same_Ok : {A E : Type 0} (x y : A) → ◌≡◌ {A = Result A E} (Ok x) (Ok y) → x ≡ y
same_Ok x y e = cc

pub some_of : {A E : Type 0} (o : Option A) (e : E) (x : A) → ok_or o e ≡ Ok x → o ≡ Some x
some_of (Some y) e x h = ap Some (same_Ok y x h)
some_of None e x h = absurd cc

pub passed : {A : Type 0} (b : Bool) (e : Error) (r : Result A Error) (y : A) → check b e r ≡ Ok y → (b ≡ true) × (r ≡ Ok y)
passed true e r y h = (refl, h)
passed false e r y h = absurd cc

-- ---- places
pub record In (xs : List ℕ) (x : ℕ) : Type 0 where
  pub at : ℕ
  pub is : index_of xs x ≡ Some at

pub in_head : (x : ℕ) (ys : List ℕ) → In (x ∷ ys) x
in_head x ys = record { at = 0; is = grind arith }

pub in_tail : (y : ℕ) (ys : List ℕ) (x : ℕ) → In ys x → In (y ∷ ys) x
in_tail y ys x h =
    elim (cases_Bool (eqb y x)) [
      | inl same ↦ record { at = 0; is = rw same refl }
      | inr other ↦ record { at = h.at + 1; is = rw (other, h.is) refl }
    ]

following : (o : Option ℕ) (i : ℕ) → option_map (λ j. j + 1) o ≡ Some i → (j : ℕ) × ((o ≡ Some j) × (i ≡ suc j))
following None i e = absurd (none-some i e)
following (Some j) i e = (j, (refl, omega (arith, same_Some _ _ e)))

pub in_either : (y : ℕ) (ys : List ℕ) (x : ℕ) → In (y ∷ ys) x → (y ≡ x) ⊎ In ys x
in_either y ys x h =
    elim (cases_Bool (eqb y x)) [
      | inl same ↦ inl (eqb-true y x same)
      | inr other ↦ (let more = following (index_of ys x) h.at (rw other at h.is) in inr (record { at = more.0; is = more.1.0 }))
    ]

pub number_there : (xs : List ℕ) (x i : ℕ) → index_of xs x ≡ Some i → slice_get xs i ≡ Some x
number_there [] x i e = absurd (none-some i e)
number_there (y ∷ ys) x i e =
    elim (cases_Bool (eqb y x)) [
      | inl same ↦ (let zero : 0 ≡ i = same_Some _ _ (rw same at e) in rw (← zero) (ap Some (eqb-true y x same)))
      | inr other ↦ (let more = following (index_of ys x) i (rw other at e) in rw more.1.1 (number_there ys x more.0 more.1.0))
    ]
