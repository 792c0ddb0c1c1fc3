-- Pairs of a glyph and a text, numbered in order of use.
use Rattle.std.proofs.Common.{◌≡◌, ℕ, ◌+◌, ◌<◌, Bool, true, false, cond, List, [], ◌∷◌, ◌++◌, length, map, Option, Some, None, Result, Ok, Err, refl, sym, ap, ◌∙◌, arith, length-append}
use Rattle.std.specs.Prelude.{IfOk, OnOk, is_ok, is_some}
use Rattle.std.specs.Option.{option_map}
use Rattle.std.proofs.lemmas.List.{length-map, map-append}
use Rattle.subsetter_base.specs.declared.error.Error.{Error}
use Rattle.subsetter_base.specs.Remap.{index_by, with_value}
use Rattle.pdf_codes.specs.declared.codes.Entry.{Entry}
use Rattle.pdf_codes.specs.Codes.{Used, same, used_of, with_pairs}

module _ {A : Type 0} (eq : A → A → Bool) where
  later : (b : Bool) (o q : Option ℕ) (n : ℕ) → ((m : ℕ) → o ≡ Some m → q ≡ Some m) → cond b (Some 0) (option_map (λ i. i + 1) o) ≡ Some n → cond b (Some 0) (option_map (λ i. i + 1) q) ≡ Some n
  later true o q n h e = e
  later false None q n h e = absurd cc
  later false (Some m) q n h e = ap (option_map (λ i. i + 1)) (h m refl) ∙ e

  -- a value that is there keeps its place
  place_stays : (xs ys : List A) (x : A) (n : ℕ) → index_by eq xs x ≡ Some n → index_by eq (xs ++ ys) x ≡ Some n
  place_stays [] ys x n e = absurd cc
  place_stays (y ∷ xs) ys x n e = later (eq y x) (index_by eq xs x) (index_by eq (xs ++ ys) x) n (λ m h. place_stays xs ys x m h) e

  value_stays_by : (b : Bool) (xs : List A) (v x : A) (n : ℕ) → index_by eq xs x ≡ Some n → index_by eq (cond b xs (xs ++ v ∷ [])) x ≡ Some n
  value_stays_by true xs v x n e = e
  value_stays_by false xs v x n e = place_stays xs (v ∷ []) x n e

  value_stays : (xs : List A) (v x : A) (n : ℕ) → index_by eq xs x ≡ Some n → index_by eq (with_value eq xs v) x ≡ Some n
  value_stays xs v x n e = value_stays_by (is_some (index_by eq xs v)) xs v x n e

-- a pair that is there keeps its place
pub pair_stays : (us xs : List Used) (u : Used) (n : ℕ) → index_by same xs u ≡ Some n → index_by same (with_pairs xs us) u ≡ Some n
pair_stays [] xs u n e = e
pair_stays (v ∷ us) xs u n e = pair_stays us (with_value same xs v) u n (value_stays same xs v u n e)

-- ---- by what a test sees of a value

module _ {A B : Type 0} (f : A → B) (eq : B → B → Bool) where
  pub place_seen : (xs : List A) (x : A) → index_by (λ a b. eq (f a) (f b)) xs x ≡ index_by eq (map f xs) (f x)
  place_seen [] x = refl
  place_seen (y ∷ ys) x = ap (λ o. cond (eq (f y) (f x)) (Some 0) (option_map (λ i. i + 1) o)) (place_seen ys x)

  value_seen_by : (b : Bool) (xs : List A) (x : A) → map f (cond b xs (xs ++ x ∷ [])) ≡ cond b (map f xs) (map f xs ++ f x ∷ [])
  value_seen_by true xs x = refl
  value_seen_by false xs x = map-append f xs (x ∷ [])

  pub value_seen : (xs : List A) (x : A) → map f (with_value (λ a b. eq (f a) (f b)) xs x) ≡ with_value eq (map f xs) (f x)
  value_seen xs x =
      ap (λ o. map f (cond (is_some o) xs (xs ++ x ∷ []))) (place_seen xs x) ∙ value_seen_by (is_some (index_by eq (map f xs) (f x))) xs x

-- ---- pairs of the code

abbrev pub same_entry : Entry → Entry → Bool
same_entry a b = same (used_of a) (used_of b)

pub value_put : (xs ys : List Entry) (x : Entry) → ys ≡ with_value same_entry xs x → map used_of ys ≡ with_value same (map used_of xs) (used_of x)
value_put xs ys x is = ap (map used_of) is ∙ value_seen used_of same xs x

pub place_put : (ys : List Entry) (x : Entry) (n : ℕ) → index_by same_entry ys x ≡ Some n → index_by same (map used_of ys) (used_of x) ≡ Some n
place_put ys x n found = sym (place_seen used_of same ys x) ∙ found

pub list_put : (r : Result ℕ Error) (xs ys : List Entry) (x : Entry) → ys ≡ cond (is_ok r) (with_value same_entry xs x) xs → OnOk r (map used_of ys ≡ with_value same (map used_of xs) (used_of x))
list_put (Ok n) xs ys x h = value_put xs ys x h
list_put (Err e) xs ys x h = tt

pub number_put : (r : Result ℕ Error) (ys : List Entry) (x : Entry) → IfOk r (λ n. index_by same_entry ys x ≡ Some n) → IfOk r (λ n. index_by same (map used_of ys) (used_of x) ≡ Some n)
number_put (Ok n) ys x h = place_put ys x n h
number_put (Err e) ys x h = tt

not_there : (o : Option ℕ) (l : List Used) (x : Used) → o ≡ None → length l < length (cond (is_some o) l (l ++ x ∷ []))
not_there None l x h = omega (arith, length-append l (x ∷ []))
not_there (Some n) l x h = absurd cc

-- a new pair makes the list longer
pub grown : (xs : List Entry) (x : Entry) → index_by same_entry xs x ≡ None → length xs < length (with_value same (map used_of xs) (used_of x))
grown xs x none =
    let seen : index_by same (map used_of xs) (used_of x) ≡ None = sym (place_seen used_of same xs x) ∙ none in
    let longer = not_there (index_by same (map used_of xs) (used_of x)) (map used_of xs) (used_of x) seen in
    omega (arith, longer, length-map xs used_of)

pub none_found : (o : Option ℕ) (f : ℕ → ℕ) (p : Option ℕ) → is_some o ≡ false → option_map f o ≡ p → p ≡ None
none_found None f p h e = sym e
none_found (Some n) f p h e = absurd cc

-- a pair keeps its place among all
pub number_stays : (rest xs total : List Used) (u : Used) (n : ℕ) → index_by same xs u ≡ Some n → with_pairs xs rest ≡ total → index_by same total u ≡ Some n
number_stays rest xs total u n found all = ap (λ (l : List Used). index_by same l u) (sym all) ∙ pair_stays rest xs u n found
