-- The numbers that are used, ascending.
use Rattle.std.proofs.Common.{◌≡◌, ◌≢◌, ℕ, zero, suc, ◌+◌, ◌-◌, ◌<◌, ◌≤◌, Bool, true, false, cond, ◌||◌, List, [], ◌∷◌, ◌++◌, length, Option, Some, None, drop, refl, ap, arith, inl, inr, ◌∙◌, sym, subst, append_assoc}
use Rattle.std.specs.Prelude.{◌==◌, Ok, Err}
use Rattle.std.specs.List.{filter, range_with_len, AllByRecursion}
use Rattle.std.specs.Option.{option_map}
use Rattle.subsetter_base.specs.Indexes.{index_of, is_listed}
use Rattle.std.proofs.Math.ListN.{set, get_or}
use Rattle.std.proofs.Math.Seq.{drop-length}
use Rattle.std.proofs.lemmas.Bool.{cases_Bool, cases_eq, eq-eqb, ne_eqb, lt-ltb, le-ltb}
use Rattle.std.proofs.lemmas.List.{get_or-set_same, get_or-set_other, append-nil, at_drop_more}
use Rattle.subsetter_base.specs.declared.error.Error.TheVariants.{OverflowError}
use Rattle.subsetter_cff.specs.Write.Glyphs.KeptView.{numbers_of}
use Rattle.subsetter_cff.specs.Write.Plain.{KeptGlyph, with_number, used_numbers}
use Rattle.subsetter_cff.specs.Write.NewDicts.UsedFontDicts.{used_font_dicts, counted_font_dicts}

-- ---- marking
or_true : (b : Bool) → (b || true) ≡ true
or_true true = refl
or_true false = refl

mark_same : (used : List Bool) (m n : ℕ) (rest : Bool) → m < length used → n ≡ m → (get_or (set used m true) n false || rest) ≡ (get_or used n false || ((m == n) || rest))
mark_same used m n rest lt e = rw (e, get_or-set_same used m true false lt, eq-eqb m m refl) (sym (or_true (get_or used m false)))

mark_other : (used : List Bool) (m n : ℕ) (rest : Bool) → n ≢ m → (get_or (set used m true) n false || rest) ≡ (get_or used n false || ((m == n) || rest))
mark_other used m n rest other = rw (get_or-set_other used m n true false other, ne_eqb m n (λ e. other (sym e))) refl

pub marked : (used : List Bool) (m n : ℕ) (rest : Bool) → m < length used → (get_or (set used m true) n false || rest) ≡ (get_or used n false || ((m == n) || rest))
marked used m n rest lt = elim (cases_eq n m) [ inl e ↦ mark_same used m n rest lt e | inr other ↦ mark_other used m n rest other ]

pub or_none : (b : Bool) → (b || false) ≡ b
or_none true = refl
or_none false = refl

-- ---- collecting
from_here : (i len : ℕ) → i < len → range_with_len i (len - i) ≡ i ∷ range_with_len (i + 1) (len - (i + 1))
from_here i len lt = ap (range_with_len i) (let e : len - i ≡ suc (len - (i + 1)) = omega arith in e)

put_in_front : (b : Bool) (places : List ℕ) (i : ℕ) (more : List ℕ) → cond b (places ++ i ∷ []) places ++ more ≡ places ++ cond b (i ∷ more) more
put_in_front true places i more = append_assoc places (i ∷ []) more
put_in_front false places i more = refl

pub collected : (p : ℕ → Bool) (places new whole : List ℕ) (i len : ℕ) → i < len → new ≡ cond (p i) (places ++ i ∷ []) places → places ++ filter p (range_with_len i (len - i)) ≡ whole
    → new ++ filter p (range_with_len (i + 1) (len - (i + 1))) ≡ whole
collected p places new whole i len lt e is =
    let more = filter p (range_with_len (i + 1) (len - (i + 1))) in
    ap (λ (l : List ℕ). l ++ more) e ∙ put_in_front (p i) places i more ∙ sym (ap (λ (l : List ℕ). places ++ filter p l) (from_here i len lt)) ∙ is

pub all_collected : (p : ℕ → Bool) (places whole : List ℕ) (i len : ℕ) → len ≤ i → places ++ filter p (range_with_len i (len - i)) ≡ whole → places ≡ whole
all_collected p places whole i len le is =
    sym (append-nil places) ∙ sym (ap (λ (n : ℕ). places ++ filter p (range_with_len i n)) (let e : len - i ≡ 0 = omega arith in e)) ∙ is

-- ---- the same numbers by either test
same_step : (b c : Bool) (i : ℕ) (xs ys : List ℕ) → b ≡ c → xs ≡ ys → cond b (i ∷ xs) xs ≡ cond c (i ∷ ys) ys
same_step b c i xs ys p q = rw (p, q) refl

same_numbers : (p q : ℕ → Bool) (k n : ℕ) → ((i : ℕ) → k ≤ i → i < k + n → p i ≡ q i) → filter p (range_with_len k n) ≡ filter q (range_with_len k n)
same_numbers p q k zero h = refl
same_numbers p q k (suc n) h = same_step (p k) (q k) k _ _ (h k (omega arith) (omega arith)) (same_numbers p q (k + 1) n (λ i a b. h i (omega arith) (omega arith)))

used_by : (numbers : List ℕ) (used : List Bool) (n : ℕ) → ((i : ℕ) → i < n → get_or used i false ≡ is_listed numbers i) → filter (λ i. get_or used i false) (range_with_len 0 n) ≡ filter (is_listed numbers) (range_with_len 0 n)
used_by numbers used n h = same_numbers (λ i. get_or used i false) (is_listed numbers) 0 n (λ i a b. h i (omega arith))

-- there are none from an end on
none_kept : (p : ℕ → Bool) (k n : ℕ) → ((i : ℕ) → k ≤ i → p i ≡ false) → filter p (range_with_len k n) ≡ []
none_kept p k zero h = refl
none_kept p k (suc n) h = rw (h k (omega arith)) (none_kept p (k + 1) n (λ i le. h i (omega arith)))

up_to : (p : ℕ → Bool) (k m n : ℕ) → m ≤ n → ((i : ℕ) → k + m ≤ i → p i ≡ false) → filter p (range_with_len k m) ≡ filter p (range_with_len k n)
up_to p k zero n le h = sym (none_kept p k n (λ i low. h i (omega arith)))
up_to p k (suc m) zero le h = absurd (omega arith)
up_to p k (suc m) (suc n) le h = same_step (p k) (p k) k _ _ refl (up_to p (k + 1) m n (omega arith) (λ i low. h i (omega arith)))

pub used_are : (numbers found : List ℕ) (used : List Bool) (end : ℕ) → end ≤ 256 → ((i : ℕ) → i < 256 → get_or used i false ≡ is_listed numbers i) → ((i : ℕ) → end ≤ i → is_listed numbers i ≡ false)
    → found ≡ filter (λ i. get_or used i false) (range_with_len 0 end) → found ≡ used_font_dicts numbers
unfolding used_font_dicts
used_are numbers found used end within h none e = e ∙ used_by numbers used end (λ i lt. h i (omega arith)) ∙ up_to (is_listed numbers) 0 end 256 within (λ i low. none i (omega arith))

-- a number before an end
pub before_end : (number n : ℕ) (rest : Bool) → number < n → ((number == n) || rest) ≡ rest
before_end number n rest lt = rw (ne_eqb number n (λ e. omega (arith, lt, e))) refl

-- ---- as they are inserted
abbrev with_one : ℕ → (ℕ → Bool) → ℕ → Bool
with_one k p n = (k == n) || p n

before_all : (k : ℕ) (p : ℕ → Bool) (from len : ℕ) → k < from → with_number k (filter p (range_with_len from len)) ≡ k ∷ filter p (range_with_len from len)
before_all k p from zero lt = refl
before_all k p from (suc len) lt =
    elim (cases_Bool (p from)) [
      | inl is ↦ rw (is, lt-ltb k from lt) refl
      | inr isnt ↦ rw isnt (before_all k p (from + 1) len (omega arith))
    ]

not_here : (k : ℕ) (p : ℕ → Bool) (from len : ℕ) → k < from → filter p (range_with_len from len) ≡ filter (with_one k p) (range_with_len from len)
not_here k p from len lt = same_numbers p (with_one k p) from len (λ i a b. let other : k ≡ i → ⊥ = (λ e. absurd (omega (arith, e))) in rw (ne_eqb k i other) refl)

left_here : (k : ℕ) (p : ℕ → Bool) (b : Bool) (from : ℕ) (rest : List ℕ) → k ≡ from → with_number k rest ≡ k ∷ rest → with_number k (cond b (from ∷ rest) rest) ≡ from ∷ rest
left_here k p true from rest e before = rw (le-ltb k from (omega arith), eq-eqb k from e) refl
left_here k p false from rest e before = before ∙ ap (λ (n : ℕ). n ∷ rest) e

inserted_here : (k : ℕ) (p : ℕ → Bool) (from len : ℕ) → k ≡ from → with_number k (filter p (range_with_len from (suc len))) ≡ filter (with_one k p) (range_with_len from (suc len))
inserted_here k p from len e =
    let rest = filter p (range_with_len (from + 1) len) in
    let right : filter (with_one k p) (range_with_len from (suc len)) ≡ from ∷ rest = rw (eq-eqb k from e) (ap (λ (l : List ℕ). from ∷ l) (sym (not_here k p (from + 1) len (omega arith)))) in
    left_here k p (p from) from rest e (before_all k p (from + 1) len (omega arith)) ∙ sym right

pub inserted : (k : ℕ) (p : ℕ → Bool) (from len : ℕ) → from ≤ k → k < from + len → with_number k (filter p (range_with_len from len)) ≡ filter (λ n. (k == n) || p n) (range_with_len from len)
inserted k p from zero le lt = absurd (omega arith)
inserted k p from (suc len) le lt =
    elim (cases_eq k from) [
      | inl same ↦ inserted_here k p from len same
      | inr other ↦ (let later : from < k = omega arith in
          let more = inserted k p (from + 1) len (omega arith) (omega arith) in
          elim (cases_Bool (p from)) [
            | inl is ↦ rw (is, le-ltb k from (omega arith), ne_eqb k from other) (ap (λ (l : List ℕ). from ∷ l) more)
            | inr isnt ↦ rw (isnt, ne_eqb k from other) more
          ])
    ]

-- the used ones as the plain way has them
pub inserted_are : (kept : List KeptGlyph) → AllByRecursion (λ (k : KeptGlyph). k.number < 256) kept → used_numbers kept ≡ used_font_dicts (numbers_of kept)
unfolding used_font_dicts
inserted_are [] all = refl
inserted_are (k ∷ kept) all = ap (with_number k.number) (inserted_are kept all.1) ∙ inserted k.number (is_listed (numbers_of kept)) 0 256 (omega arith) all.0

-- ---- there are few, or too many
pub counted : (numbers found : List ℕ) → found ≡ used_font_dicts numbers → length found ≤ 255 → counted_font_dicts numbers ≡ Ok found
unfolding counted_font_dicts
counted numbers found e few = rw (lt-ltb (length (used_font_dicts numbers)) 256 (omega (arith, few, ap length e))) (ap Ok (sym e))

pub too_many : (numbers found : List ℕ) → found ≡ used_font_dicts numbers → 255 < length found → counted_font_dicts numbers ≡ Err OverflowError
unfolding counted_font_dicts
too_many numbers found e many = rw (le-ltb (length (used_font_dicts numbers)) 256 (omega (arith, many, ap length e))) refl

-- ---- the places of numbers, from the last on
shifted : (i : ℕ) (o : Option ℕ) → option_map (λ (j : ℕ). i + 1 + j) o ≡ option_map (λ (j : ℕ). i + j) (option_map (λ (j : ℕ). j + 1) o)
shifted i None = refl
shifted i (Some j) = ap Some (let e : i + 1 + j ≡ i + (j + 1) = omega arith in e)

next_place : (places : List (Option ℕ)) (m n i : ℕ) (rest : List ℕ) → m < length places → get_or places n None ≡ option_map (λ (j : ℕ). i + 1 + j) (index_of rest n)
    → get_or (set places m (Some i)) n None ≡ option_map (λ (j : ℕ). i + j) (index_of (m ∷ rest) n)
next_place places m n i rest lt e =
    elim (cases_eq n m) [
      | inl same ↦ rw (same, get_or-set_same places m (Some i) None lt, eq-eqb m m refl) (ap Some (let z : i ≡ i + 0 = omega arith in z))
      | inr other ↦ rw (get_or-set_other places m n (Some i) None other, ne_eqb m n (λ x. other (sym x))) (e ∙ shifted i (index_of rest n))
    ]

pub next_placed : (places : List (Option ℕ)) (xs : List ℕ) (n i k : ℕ) → i ≡ k + 1 → i ≤ length xs → get_or xs k 0 < length places → get_or places n None ≡ option_map (λ (j : ℕ). i + j) (index_of (drop i xs) n)
    → get_or (set places (get_or xs k 0) (Some k)) n None ≡ option_map (λ (j : ℕ). k + j) (index_of (drop k xs) n)
next_placed places xs n i k is le lt e =
    next_place places (get_or xs k 0) n k (drop (k + 1) xs) lt (subst (λ (m : ℕ). get_or places n None ≡ option_map (λ (j : ℕ). m + j) (index_of (drop m xs) n)) is e)
    ∙ sym (at_drop_more (λ (l : List ℕ). option_map (λ (j : ℕ). k + j) (index_of l n)) xs k 0 (omega arith))

pub none_placed : (xs : List ℕ) (n i : ℕ) → None ≡ option_map (λ (j : ℕ). i + j) (index_of (drop (length xs) xs) n)
none_placed xs n i = sym (ap (λ (l : List ℕ). option_map (λ (j : ℕ). i + j) (index_of l n)) (drop-length xs))

from_first : (o : Option ℕ) → option_map (λ (j : ℕ). 0 + j) o ≡ o
from_first None = refl
from_first (Some j) = ap Some (let e : 0 + j ≡ j = omega arith in e)

pub all_placed : (o : Option ℕ) (xs : List ℕ) (n i : ℕ) → i ≡ 0 → o ≡ option_map (λ (j : ℕ). i + j) (index_of (drop i xs) n) → o ≡ index_of xs n
all_placed o xs n i is e = e ∙ ap (λ (m : ℕ). option_map (λ (j : ℕ). m + j) (index_of (drop m xs) n)) is ∙ from_first (index_of xs n)

-- ---- just the first one
or_same : (b : Bool) → (b || b) ≡ b
or_same true = refl
or_same false = refl

listed_zero : (numbers : List ℕ) → ((k : ℕ) → k < length numbers → get_or numbers k 0 ≡ 0) → 0 < length numbers → (n : ℕ) → is_listed numbers n ≡ (0 == n)
listed_zero [] zeros some n = absurd (omega arith)
listed_zero (x ∷ []) zeros some n = ap (λ (m : ℕ). (m == n) || false) (zeros 0 (omega arith)) ∙ or_none (0 == n)
listed_zero (x ∷ y ∷ xs) zeros some n =
    ap (λ (m : ℕ). (m == n) || is_listed (y ∷ xs) n) (zeros 0 (omega arith))
    ∙ ap (λ (b : Bool). (0 == n) || b) (listed_zero (y ∷ xs) (λ k lt. zeros (suc k) (omega arith)) (omega arith) n)
    ∙ or_same (0 == n)

zero_marked : (n : ℕ) → get_or (true ∷ []) n false ≡ (0 == n)
zero_marked zero = refl
zero_marked (suc n) = sym (ne_eqb 0 (suc n) (λ e. omega arith))

pub just_first : (numbers : List ℕ) → ((k : ℕ) → k < length numbers → get_or numbers k 0 ≡ 0) → 0 < length numbers → counted_font_dicts numbers ≡ Ok (0 ∷ [])
just_first numbers zeros some =
    let listed = listed_zero numbers zeros some in
    let used = used_are numbers (0 ∷ []) (true ∷ []) 1 (omega arith) (λ i lt. zero_marked i ∙ sym (listed i)) (λ i low. listed i ∙ ne_eqb 0 i (λ e. omega arith)) refl in
    counted numbers (0 ∷ []) used (omega arith)
