-- The index of a value in a list that grows at its end, by a test for equal values.
use Rattle.std.proofs.Common.{◌≡◌, ℕ, ◌+◌, Bool, true, false, cond, ltb, ◌||◌, List, [], ◌∷◌, ◌++◌, length, Option, Some, None, refl, sym, ap, ◌∙◌, arith}
use Rattle.std.specs.Prelude.{is_some}
use Rattle.std.specs.Cmp.{IsEquivalence}
use Rattle.std.specs.List.{list_any}
use Rattle.std.specs.Option.{option_map}
use Rattle.subsetter_base.specs.Remap.{index_by, sum_below}
use Rattle.subsetter_base.proofs.IndexLemmas.{later_none, later_swapped}

any_from : (b : Bool) (o : Option ℕ) (rest : Bool) → is_some o ≡ rest → is_some (cond b (Some 0) (option_map (λ i. i + 1) o)) ≡ (b || rest)
any_from true o rest e = refl
any_from false None rest e = e
any_from false (Some i) rest e = e

module _ {A : Type 0} {eq : A → A → Bool} (laws : IsEquivalence eq) where
  -- an unknown value is put at the end
  pub index_by-push : (xs : List A) (x q : A) (n : ℕ) → index_by eq xs x ≡ None → n ≡ length xs → index_by eq (xs ++ x ∷ []) q ≡ cond (eq x q) (Some n) (index_by eq xs q)
  index_by-push [] x q n absent e = ap (λ k. cond (eq x q) (Some k) None) (sym e)
  index_by-push (y ∷ ys) x q n absent e =
      let parts = later_none (eq y x) (index_by eq ys x) absent in
      let before = index_by-push ys x q (length ys) parts.1 refl in
      let apart : eq x q ≡ true → eq y q ≡ false = λ h. laws.symm y q ∙ sym (laws.congr x q y h) ∙ laws.symm x y ∙ parts.0 in
      let len : length ys + 1 ≡ n = omega (arith, e) in
      ap (λ o. cond (eq y q) (Some 0) (option_map (λ i. i + 1) o)) before ∙ later_swapped (eq x q) (eq y q) (length ys) (index_by eq ys q) apart
      ∙ ap (λ k. cond (eq x q) (Some k) (cond (eq y q) (Some 0) (option_map (λ i. i + 1) (index_by eq ys q)))) len

  pub index_by-pushed : (xs : List A) (x : A) (n : ℕ) → index_by eq xs x ≡ None → n ≡ length xs → index_by eq (xs ++ x ∷ []) x ≡ Some n
  index_by-pushed xs x n absent e = index_by-push xs x x n absent e ∙ ap (λ b. cond b (Some n) (index_by eq xs x)) (laws.refl x)

  pub any-has_index : (xs : List A) (q : A) → list_any (eq q) xs ≡ is_some (index_by eq xs q)
  any-has_index [] q = refl
  any-has_index (y ∷ ys) q = ap (λ b. b || list_any (eq q) ys) (laws.symm q y) ∙ sym (any_from (eq y q) (index_by eq ys q) (list_any (eq q) ys) (sym (any-has_index ys q)))

picked : (b : Bool) (m n : ℕ) → cond b (Some m) None ≡ Some n → n ≡ m
picked true m n e = cc
picked false m n e = absurd cc

-- a sum that fits is the sum
pub sum_is : (limit a b n : ℕ) → sum_below limit a b ≡ Some n → n ≡ a + b
sum_is limit a b n e = picked (ltb (a + b) limit) (a + b) n e

none_map : {A : Type 0} (f : A → ℕ) (o : Option A) → o ≡ None → option_map f o ≡ None
none_map f o e = ap (option_map f) e

-- a number after an update
pub mapped_cond : {A : Type 0} (f : A → ℕ) (b : Bool) (v : A) (o : Option A) → option_map f (cond b (Some v) o) ≡ cond b (Some (f v)) (option_map f o)
mapped_cond f true v o = refl
mapped_cond f false v o = refl
