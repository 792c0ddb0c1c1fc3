-- Looking a glyph up in the ranges of FDSelect, from the front or by halves.
use Rattle.std.proofs.Common.{◌≡◌, ℕ, zero, suc, ◌+◌, ◌-◌, ◌*◌, ◌/◌, ◌<◌, ◌≤◌, Bool, true, false, cond, ◌&&◌, List, length, take, min, Option, Some, None, refl, ap, arith, inl, inr, ◌⊎◌, ◌∙◌, sym}
use Rattle.std.specs.Prelude.{◌==◌, ◌||◌, nat_le}
use Rattle.std.proofs.lemmas.Bool.{lt-ltb, le-ltb, le-leb, lt-leb, cases_lt}
use Rattle.subsetter_base.specs.Bytes.{be}
use Rattle.subsetter_cff.specs.Read.FdArray.FontDicts.{selected, Ranges}
use Rattle.subsetter_cff.specs.Read.FdArray.Ranges.{first_of_range, number_of_range, has_glyph, readable_ranges, found_from, Ascend}
use Rattle.subsetter_cff.proofs.ReadLaws.FdArrayLaws.RangeSteps.{two, too_short, by_number}

-- ---- the whole
abbrev bad : ℕ → Bool
bad n = (n == 0) || (n == 65535)

which : (n len : ℕ) → (min n ((len - 4) / 3) ≡ n) ⊎ (len < 3 * (0 + min n ((len - 4) / 3)) + 7)
which n len =
    elim (cases_lt ((len - 4) / 3) n) [
      | inl fewer ↦ inr (omega arith)
      | inr all ↦ inl (omega arith)
    ]

by_count : (bytes : List ℕ) (glyph : ℕ) (b : Bool) → bad (be (take 2 bytes)) ≡ b → 2 ≤ length bytes
    → selected (Ranges bytes) glyph ≡ found_from bytes glyph (readable_ranges bytes) 0
unfolding selected readable_ranges
by_count bytes glyph true e le = rw (two bytes le, e) refl
by_count bytes glyph false e le =
    rw (two bytes le, e) (by_number bytes glyph (be (take 2 bytes)) (min (be (take 2 bytes)) ((length bytes - 4) / 3)) 0 (omega arith) (λ some. omega arith) (which (be (take 2 bytes)) (length bytes)))

pub readable_is : (bytes : List ℕ) → 2 ≤ length bytes → readable_ranges bytes ≡ cond (bad (be (take 2 bytes))) 0 (min (be (take 2 bytes)) ((length bytes - 4) / 3))
unfolding readable_ranges
readable_is bytes le = rw (two bytes le) refl

pub readable_short : (bytes : List ℕ) → length bytes < 2 → readable_ranges bytes ≡ 0
unfolding readable_ranges
readable_short bytes lt = rw (too_short bytes lt) refl

pub ruleset readable = (readable_is, readable_short)

-- the font dict of the first range that has the glyph
pub selected_is : (bytes : List ℕ) (glyph : ℕ) → selected (Ranges bytes) glyph ≡ found_from bytes glyph (readable_ranges bytes) 0
unfolding selected readable_ranges
selected_is bytes glyph =
    elim (cases_lt (length bytes) 2) [
      | inl lt ↦ rw (too_short bytes lt) refl
      | inr le ↦ by_count bytes glyph (bad (be (take 2 bytes))) refl le
    ]

-- ---- passing ranges
at : (bytes : List ℕ) (glyph n m i j : ℕ) → n ≡ m → i ≡ j → found_from bytes glyph n i ≡ found_from bytes glyph m j
at bytes glyph n m i j p q = cc

-- ranges that don't have the glyph are passed
pub passed : (bytes : List ℕ) (glyph n i j : ℕ) → j ≤ n → ((k : ℕ) → i ≤ k → k < i + j → has_glyph bytes glyph k ≡ false)
    → found_from bytes glyph n i ≡ found_from bytes glyph (n - j) (i + j)
passed bytes glyph n i zero le h = at bytes glyph n (n - 0) i (i + 0) (omega arith) (omega arith)
passed bytes glyph zero i (suc j) le h = absurd (omega arith)
passed bytes glyph (suc n) i (suc j) le h =
    rw (h i (omega arith) (omega arith)) (passed bytes glyph n (i + 1) j (omega arith) (λ k a b. h k (omega arith) (omega arith))
    ∙ ap (λ (a : ℕ). found_from bytes glyph a (i + 1 + j)) (let e : n - j ≡ suc n - suc j = omega arith in e)
    ∙ ap (found_from bytes glyph (suc n - suc j)) (let e : i + 1 + j ≡ i + suc j = omega arith in e))

pub in_none : (bytes : List ℕ) (glyph n i : ℕ) → ((k : ℕ) → i ≤ k → k < i + n → has_glyph bytes glyph k ≡ false) → found_from bytes glyph n i ≡ None
in_none bytes glyph zero i h = refl
in_none bytes glyph (suc n) i h = rw (h i (omega arith) (omega arith)) (in_none bytes glyph n (i + 1) (λ k a b. h k (omega arith) (omega arith)))

-- ---- firsts that ascend
pub rises : (bytes : List ℕ) (count i d : ℕ) → Ascend bytes count → i + d ≤ count → first_of_range bytes i ≤ first_of_range bytes (i + d)
rises bytes count i zero up le = omega (arith, ap (first_of_range bytes) (let e : i + 0 ≡ i = omega arith in e))
rises bytes count i (suc d) up le =
    let before = rises bytes count i d up (omega arith) in
    let here = up (i + d) (omega arith) in
    let same : first_of_range bytes (i + d + 1) ≡ first_of_range bytes (i + suc d) = ap (first_of_range bytes) (let e : i + d + 1 ≡ i + suc d = omega arith in e) in
    omega (arith, before, here, same)

no_and : (b : Bool) → (b && false) ≡ false
no_and true = refl
no_and false = refl

pub ends_before : (bytes : List ℕ) (glyph k : ℕ) → first_of_range bytes (k + 1) ≤ glyph → has_glyph bytes glyph k ≡ false
ends_before bytes glyph k le = rw (le-ltb glyph (first_of_range bytes (k + 1)) le) (no_and (nat_le (first_of_range bytes k) glyph))

pub begins_after : (bytes : List ℕ) (glyph k : ℕ) → glyph < first_of_range bytes k → has_glyph bytes glyph k ≡ false
begins_after bytes glyph k lt = rw (lt-leb (first_of_range bytes k) glyph lt) refl

pub has_it : (bytes : List ℕ) (glyph k : ℕ) → first_of_range bytes k ≤ glyph → glyph < first_of_range bytes (k + 1) → has_glyph bytes glyph k ≡ true
has_it bytes glyph k le lt = rw (le-leb (first_of_range bytes k) glyph le, lt-ltb glyph (first_of_range bytes (k + 1)) lt) refl

-- all ranges up to one that ends before the glyph
pub all_end : (bytes : List ℕ) (count glyph middle k : ℕ) → Ascend bytes count → middle < count → first_of_range bytes (middle + 1) ≤ glyph → k ≤ middle → has_glyph bytes glyph k ≡ false
all_end bytes count glyph middle k up within le order =
    let up_to = rises bytes count (k + 1) (middle - k) up (omega arith) in
    let same : first_of_range bytes (k + 1 + (middle - k)) ≡ first_of_range bytes (middle + 1) = ap (first_of_range bytes) (let e : k + 1 + (middle - k) ≡ middle + 1 = omega arith in e) in
    ends_before bytes glyph k (omega (arith, up_to, same, le))

-- all ranges from one that begins after the glyph on
pub all_begin : (bytes : List ℕ) (count glyph middle k : ℕ) → Ascend bytes count → middle ≤ k → k < count → glyph < first_of_range bytes middle → has_glyph bytes glyph k ≡ false
all_begin bytes count glyph middle k up order within lt =
    let up_to = rises bytes count middle (k - middle) up (omega arith) in
    let same : first_of_range bytes (middle + (k - middle)) ≡ first_of_range bytes k = ap (first_of_range bytes) (let e : middle + (k - middle) ≡ k = omega arith in e) in
    begins_after bytes glyph k (omega (arith, up_to, same, lt))

below_middle : (bytes : List ℕ) (count glyph middle k : ℕ) → Ascend bytes count → middle < count → first_of_range bytes middle ≤ glyph → k < middle → first_of_range bytes (k + 1) ≤ glyph
below_middle bytes count glyph middle k up within le order =
    let up_to = rises bytes count (k + 1) (middle - (k + 1)) up (omega arith) in
    let same : first_of_range bytes (k + 1 + (middle - (k + 1))) ≡ first_of_range bytes middle = ap (first_of_range bytes) (let e : k + 1 + (middle - (k + 1)) ≡ middle = omega arith in e) in
    omega (arith, up_to, same, le)

pub here : (bytes : List ℕ) (glyph n i : ℕ) → 0 < n → has_glyph bytes glyph i ≡ true → Some (number_of_range bytes i) ≡ found_from bytes glyph n i
here bytes glyph zero i some e = absurd (omega arith)
here bytes glyph (suc n) i some e = rw e refl

-- ---- the step of a search from the front
pub one_more : (bytes : List ℕ) (glyph count i : ℕ) (answer : Option ℕ) → i < count → has_glyph bytes glyph i ≡ false → found_from bytes glyph (count - i) i ≡ answer → found_from bytes glyph (count - (i + 1)) (i + 1) ≡ answer
one_more bytes glyph count i answer lt absent is =
    ap (λ (a : ℕ). found_from bytes glyph a (i + 1)) (let e : count - (i + 1) ≡ count - i - 1 = omega arith in e)
    ∙ sym (passed bytes glyph (count - i) i 1 (omega arith) (λ k a b. ap (has_glyph bytes glyph) (let e : k ≡ i = omega arith in e) ∙ absent)) ∙ is

pub all_passed : (bytes : List ℕ) (glyph count i : ℕ) (answer : Option ℕ) → count ≤ i → found_from bytes glyph (count - i) i ≡ answer → None ≡ answer
all_passed bytes glyph count i answer le is = ap (λ (a : ℕ). found_from bytes glyph a i) (let e : 0 ≡ count - i = omega arith in e) ∙ is

-- ---- the steps of a search by halves
pub up_from_middle : (bytes : List ℕ) (count glyph low middle : ℕ) (answer : Option ℕ) → Ascend bytes count → low ≤ middle → middle < count → first_of_range bytes (middle + 1) ≤ glyph
    → found_from bytes glyph (count - low) low ≡ answer → found_from bytes glyph (count - (middle + 1)) (middle + 1) ≡ answer
up_from_middle bytes count glyph low middle answer up order within le is =
    let j = middle + 1 - low in
    ap (λ (a : ℕ). found_from bytes glyph a (middle + 1)) (let e : count - (middle + 1) ≡ count - low - j = omega arith in e)
    ∙ ap (found_from bytes glyph (count - low - j)) (let e : middle + 1 ≡ low + j = omega arith in e)
    ∙ sym (passed bytes glyph (count - low) low j (omega arith) (λ k a b. all_end bytes count glyph middle k up within le (omega arith))) ∙ is

pub in_the_middle : (bytes : List ℕ) (count glyph low middle : ℕ) (answer : Option ℕ) → Ascend bytes count → low ≤ middle → middle < count → first_of_range bytes middle ≤ glyph → glyph < first_of_range bytes (middle + 1)
    → found_from bytes glyph (count - low) low ≡ answer → Some (number_of_range bytes middle) ≡ answer
in_the_middle bytes count glyph low middle answer up order within le lt is =
    let j = middle - low in
    let no : (k : ℕ) → low ≤ k → k < low + j → has_glyph bytes glyph k ≡ false = λ k a b. ends_before bytes glyph k (below_middle bytes count glyph middle k up within le (omega arith)) in
    here bytes glyph (count - low - j) middle (omega arith) (has_it bytes glyph middle le lt)
    ∙ ap (found_from bytes glyph (count - low - j)) (let e : middle ≡ low + j = omega arith in e)
    ∙ sym (passed bytes glyph (count - low) low j (omega arith) no) ∙ is
