-- The place of a string that is added to others.
use Rattle.std.proofs.Common.{◌≡◌, ℕ, suc, ◌+◌, Bool, true, false, cond, List, [], ◌∷◌, ◌++◌, length, Option, Some, None, refl, ap, arith, inl, inr, ◌∙◌, sym}
use Rattle.std.specs.Prelude.{◌==◌, nat_lt, is_some, unwrap_or}
use Rattle.std.specs.Cmp.{IsEquivalence}
use Rattle.std.specs.List.{IsDistinct}
use Rattle.std.specs.Borrow.{Bor}
use Rattle.std.specs.Option.{option_map}
use Rattle.std.specs.Str.{bytes_eq}
use Rattle.std.proofs.lemmas.Bool.{cases_Bool, eq-eqb}
use Rattle.std.proofs.lemmas.Option.{none-some}
use Rattle.std.proofs.lemmas.Map.Keys.{IsDistinct-push}
use Rattle.std.proofs.lemmas.Slice.Eq.{bytes_eq-Decides}
use Rattle.subsetter_base.specs.Remap.{index_by, with_value}
use Rattle.subsetter_base.proofs.Lists.{bytes_eq_is, bytes_eq_self}
use Rattle.subsetter_base.proofs.RemapLemmas.{any-has_index}
use Rattle.subsetter_cff.specs.Write.Strings.SidRemapping.{Remapped, number_in, known_number, new_number, with_old}
use Rattle.subsetter_base.specs.Texts.{views}
use Rattle.subsetter_cff.specs.Read.Strings.{standard_strings}

not_there : (f : ℕ → ℕ) (o : Option ℕ) → option_map f o ≡ None → o ≡ None
not_there f None e = refl
not_there f (Some i) e = absurd (none-some (f i) (sym e))

pub at_the_end : (xs : List (List ℕ)) (x : List ℕ) → index_by bytes_eq xs x ≡ None → index_by bytes_eq (xs ++ x ∷ []) x ≡ Some (length xs)
at_the_end [] x e = rw ((bytes_eq-Decides x x).1 refl) refl
at_the_end (y ∷ ys) x e =
    elim (cases_Bool (bytes_eq y x)) [
      | inl same ↦ absurd (none-some 0 (sym (rw same at e)))
      | inr other ↦ (let below : index_by bytes_eq ys x ≡ None = not_there (λ i. i + 1) (index_by bytes_eq ys x) (rw other at e) in rw (other, at_the_end ys x below) (ap (λ (n : ℕ). Some n) (let one : length ys + 1 ≡ length (y ∷ ys) = omega arith in one)))
    ]

views_added : (xs : List (Bor (List ℕ))) (x : Bor (List ℕ)) → views (xs ++ x ∷ []) ≡ views xs ++ x.now ∷ []
views_added [] x = refl
views_added (y ∷ ys) x = ap (λ (l : List (List ℕ)). y.now ∷ l) (views_added ys x)

length_views : (xs : List (Bor (List ℕ))) → length (views xs) ≡ length xs
length_views [] = refl
length_views (y ∷ ys) = ap suc (length_views ys)

pub number_added : (xs new : List (Bor (List ℕ))) (x : Bor (List ℕ)) (n : ℕ) → None ≡ index_by bytes_eq (views xs) x.now → new ≡ xs ++ x ∷ [] → n ≡ length xs → number_in (views new) x.now ≡ Some (391 + n)
number_added xs new x n absent is count =
    rw (is, views_added xs x, at_the_end (views xs) x.now (sym absent)) (ap (λ (m : ℕ). Some (391 + m)) (length_views xs ∙ sym count))

-- ---- old numbers
pub number_noted : (pairs : List (ℕ × ℕ)) (old n : ℕ) → known_number pairs old ≡ None → known_number (pairs ++ (old, n) ∷ []) old ≡ Some n
number_noted [] old n e = rw (eq-eqb old old refl) refl
number_noted (pair ∷ pairs) old n e =
    elim (cases_Bool (pair.0 == old)) [
      | inl same ↦ absurd (none-some pair.1 (sym (rw same at e)))
      | inr other ↦ rw (other, number_noted pairs old n (rw other at e)) refl
    ]

noted_by : (b : Bool) (pairs : List (ℕ × ℕ)) (old n : ℕ) → None ≡ cond b (Some old) (known_number pairs old) → cond b (Some old) (known_number (pairs ++ (old, n) ∷ []) old) ≡ Some n
noted_by true pairs old n e = absurd (none-some old e)
noted_by false pairs old n e = number_noted pairs old n (sym e)

pub new_noted : (pairs new : List (ℕ × ℕ)) (old n : ℕ) → None ≡ new_number pairs old → new ≡ pairs ++ (old, n) ∷ [] → new_number new old ≡ Some n
new_noted pairs new old n e is = rw is (noted_by (nat_lt old standard_strings) pairs old n e)

taken : (o : Option ℕ) (r other : Remapped) → None ≡ o → cond (is_some o) r other ≡ other
taken None r other e = refl
taken (Some n) r other e = absurd (none-some n e)

pub old_noted : (r : Remapped) (texts : List (List ℕ)) (pairs : List (ℕ × ℕ)) (old n : ℕ) (s : List ℕ) → None ≡ new_number r.known old → texts ≡ with_value bytes_eq r.texts s
    → number_in texts s ≡ Some n → pairs ≡ r.known ++ (old, n) ∷ [] → record { texts = texts; known = pairs } ≡ with_old r old s
old_noted r texts pairs old n s absent is number known =
    let there : number_in (with_value bytes_eq r.texts s) s ≡ Some n = rw (← is) number in
    let at : unwrap_or (number_in (with_value bytes_eq r.texts s) s) 0 ≡ n = ap (λ (o : Option ℕ). unwrap_or o 0) there in
    rw (is, known, ← at) (sym (taken (new_number r.known old) r _ absent))

-- ---- no repeats
pub none_twice : (xs : List (Bor (List ℕ))) → xs ≡ [] → IsDistinct bytes_eq (views xs)
unfolding IsDistinct
none_twice xs e = rw e tt

agree : (a b : Bool) → (a ≡ true → b ≡ true) → (b ≡ true → a ≡ true) → a ≡ b
agree true b h k = sym (h refl)
agree false true h k = k refl
agree false false h k = refl

bytes_eq_equiv : IsEquivalence bytes_eq
bytes_eq_equiv = record {
  refl = bytes_eq_self;
  symm = λ x y. agree (bytes_eq x y) (bytes_eq y x) (λ e. (bytes_eq-Decides y x).1 (sym (bytes_eq_is x y e))) (λ e. (bytes_eq-Decides x y).1 (sym (bytes_eq_is y x e)));
  congr = λ x y z e. ap (λ w. bytes_eq w z) (bytes_eq_is x y e);
}

with_once : (o : Option ℕ) (xs : List (List ℕ)) (x : List ℕ) → index_by bytes_eq xs x ≡ o → IsDistinct bytes_eq xs → IsDistinct bytes_eq (cond (is_some o) xs (xs ++ x ∷ []))
with_once (Some i) xs x e once = once
with_once None xs x e once = IsDistinct-push bytes_eq_equiv xs x once (any-has_index bytes_eq_equiv xs x ∙ ap is_some e)

pub once_after : (b : Bool) (xs new : List (List ℕ)) (x : List ℕ) → IsDistinct bytes_eq xs → new ≡ cond b (with_value bytes_eq xs x) xs → IsDistinct bytes_eq new
once_after true xs new x once e = rw e (with_once (index_by bytes_eq xs x) xs x refl once)
once_after false xs new x once e = rw e once
