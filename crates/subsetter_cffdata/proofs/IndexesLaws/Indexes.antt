-- An INDEX that was written is read again.
use Rattle.std.proofs.Common.{◌≡◌, ℕ, zero, suc, ◌+◌, ◌-◌, ◌*◌, ◌^◌, ◌<◌, ◌≤◌, true, false, eqb, List, [], ◌∷◌, ◌++◌, drop, map, length, Option, Some, refl, ap, arith, inl, inr, ◌∙◌, sym, append_assoc, length-append, get_or, add-zero, zero-add, mul-le-mul}
use Rattle.std.specs.List.{concat, range_with_len, AllByRecursion}
use Rattle.std.specs.Int.{bytes_high_first, is_in_range}
use Rattle.std.proofs.lemmas.Bool.{cases_lt, lt-ltb, le-ltb, ne_eqb}
use Rattle.std.proofs.lemmas.List.{take_at, drop_at, drop-drop}
use Rattle.subsetter_base.specs.Bytes.{be}
use Rattle.subsetter_cffdata.specs.Bytes.{ReadAgain}
use Rattle.subsetter_cffdata.specs.Indexes.Index.{offset_at, entry, offsets_limit, index_data, index_body, index_of, index_at, offset_size, offsets, numbers, header, index}
use Rattle.subsetter_cffdata.specs.Indexes.Owned.{FitIndex}
use Rattle.subsetter_cffdata.proofs.NumeralsLaws.Cards.{byte_again, part_again, card_again, be_bytes1, be_bytes2, be_bytes3, be_bytes4}

-- numbers up to the limit have k bytes
pub record Holds (k limit : ℕ) : Type 0 where
  pub len : (n : ℕ) → length (bytes_high_first k n) ≡ k
  pub again : (n : ℕ) → n ≤ limit → be (bytes_high_first k n) ≡ n
  pub size : is_in_range 1 4 k ≡ true
  pub small : k ≤ 4

pub holds : (m : ℕ) → m < 2 ^ 32 → Holds (offset_size m) m
holds m fits =
    elim (cases_lt m 256) [
      | inl a ↦ rw (lt-ltb m 256 a) (record { len = λ n. refl; again = λ n le. be_bytes1 n (omega arith); size = refl; small = omega arith })
      | inr a ↦ rw (le-ltb m 256 a) (elim (cases_lt m 65536) [
        | inl b ↦ rw (lt-ltb m 65536 b) (record { len = λ n. refl; again = λ n le. be_bytes2 n (omega arith); size = refl; small = omega arith })
        | inr b ↦ rw (le-ltb m 65536 b) (elim (cases_lt m 16777216) [
          | inl d ↦ rw (lt-ltb m 16777216 d) (record { len = λ n. refl; again = λ n le. be_bytes3 n (omega arith); size = refl; small = omega arith })
          | inr d ↦ rw (le-ltb m 16777216 d) (record { len = λ n. refl; again = λ n le. be_bytes4 n (omega arith); size = refl; small = omega arith })
        ])
      ])
    ]

-- ---- numbers of one size
pub length-numbers : (k limit : ℕ) → Holds k limit → (ns : List ℕ) → length (numbers k ns) ≡ length ns * k
length-numbers k limit h [] = omega arith
length-numbers k limit h (n ∷ ns) =
    let tail = length-numbers k limit h ns in
    let joined = length-append (bytes_high_first k n) (numbers k ns) in
    let product : suc (length ns) * k ≡ length ns * k + k = omega arith in
    omega (arith, tail, joined, h.len n, product)

pub drop-numbers : (k limit : ℕ) → Holds k limit → (ns : List ℕ) (i : ℕ) → i ≤ length ns → drop (i * k) (numbers k ns) ≡ numbers k (drop i ns)
drop-numbers k limit h ns zero le = let none : 0 * k ≡ 0 = omega arith in rw none refl
drop-numbers k limit h [] (suc i) le = absurd (omega arith)
drop-numbers k limit h (n ∷ ns) (suc i) le =
    let product : suc i * k ≡ k + i * k = omega arith in
    rw (product, ← drop-drop (i * k) k, drop_at (bytes_high_first k n) (numbers k ns) k (h.len n)) (drop-numbers k limit h ns i (omega arith))

-- offset i of the numbers
pub offset_is : (k limit : ℕ) → Holds k limit → (ns : List ℕ) (i : ℕ) → AllByRecursion (λ n. n ≤ limit) ns → i < length ns → offset_at k (numbers k ns) i ≡ get_or ns i 0
offset_is k limit h [] i all lt = absurd (omega arith)
offset_is k limit h (n ∷ ns) zero all lt = let none : 0 * k ≡ 0 = omega arith in rw (none, take_at (bytes_high_first k n) (numbers k ns) k (h.len n)) (h.again n all.0)
offset_is k limit h (n ∷ ns) (suc i) all lt =
    let product : suc i * k ≡ k + i * k = omega arith in
    rw (product, ← drop-drop (i * k) k, drop_at (bytes_high_first k n) (numbers k ns) k (h.len n)) (offset_is k limit h ns i all.1 (omega arith))

-- ---- the offsets
pub length-offsets : (from : ℕ) (items : List (List ℕ)) → length (offsets from items) ≡ length items
length-offsets from [] = refl
length-offsets from (item ∷ items) = ap suc (length-offsets (from + length item) items)

pub offsets_within : (limit from : ℕ) (items : List (List ℕ)) → from + length (concat items) ≤ limit → AllByRecursion (λ o. o ≤ limit) (offsets from items)
offsets_within limit from [] le = tt
offsets_within limit from (item ∷ items) le =
    let joined = length-append item (concat items) in
    (omega arith, offsets_within limit (from + length item) items (omega arith))

-- ---- the entries
pub entry_is : (before item after : List ℕ) (from : ℕ) → from ≡ length before + 1 → entry (before ++ (item ++ after)) from (from + length item) ≡ Some item
entry_is before item after from e =
    let l1 = length-append before (item ++ after) in
    let l2 = length-append item after in
    let nonzero : eqb from 0 ≡ false = ne_eqb from 0 (λ z. omega arith) in
    let ascends = le-ltb (from + length item) from (omega arith) in
    let inside = le-ltb (length (before ++ (item ++ after)) + 1) (from + length item) (omega arith) in
    let width : from + length item - from ≡ length item = omega arith in
    let front : from - 1 ≡ length before = omega arith in
    rw (nonzero, ascends, inside, width, front, drop_at before (item ++ after) (length before) refl, take_at item after (length item) refl) refl

-- the offsets are those of the function g from a on
pub entries_are : (before : List ℕ) (items : List (List ℕ)) (from a : ℕ) (g : ℕ → ℕ) → from ≡ length before + 1
    → ((j : ℕ) → j ≤ length items → g (a + j) ≡ get_or (from ∷ offsets from items) j 0)
    → map (λ i. entry (before ++ concat items) (g i) (g (i + 1))) (range_with_len a (length items)) ≡ map Some items
entries_are before [] from a g e h = refl
entries_are before (item ∷ items) from a g e h =
    let at_a : g a ≡ from = ap g (sym (add-zero a)) ∙ h 0 (omega arith) in
    let at_next : g (a + 1) ≡ from + length item = h 1 (omega arith) in
    let first : entry (before ++ (item ++ concat items)) (g a) (g (a + 1)) ≡ Some item = rw (at_a, at_next) (entry_is before item (concat items) from e) in
    let moved : (j : ℕ) → j ≤ length items → g (a + 1 + j) ≡ get_or ((from + length item) ∷ offsets (from + length item) items) j 0 =
    λ j le. let step : a + 1 + j ≡ a + suc j = omega arith in rw step (h (suc j) (omega arith)) in
    let others = entries_are (before ++ item) items (from + length item) (a + 1) g (omega (arith, length-append before item)) moved in
    let regrouped = append_assoc before item (concat items) in
    ap (λ (x : Option (List ℕ)). x ∷ map (λ i. entry (before ++ (item ++ concat items)) (g i) (g (i + 1))) (range_with_len (a + 1) (length items))) first
    ∙ ap (λ (d : List ℕ). Some item ∷ map (λ i. entry d (g i) (g (i + 1))) (range_with_len (a + 1) (length items))) (sym regrouped)
    ∙ ap (λ (xs : List (Option (List ℕ))). Some item ∷ xs) others

last-offsets : (from : ℕ) (items : List (List ℕ)) → get_or (from ∷ offsets from items) (length items) 0 ≡ from + length (concat items)
last-offsets from [] = omega arith
last-offsets from (item ∷ items) = last-offsets (from + length item) items ∙ omega (arith, length-append item (concat items))

product_le : (a b k n : ℕ) → a ≤ b → k ≤ n → a * k ≤ b * n
product_le a b k n le le' = mul-le-mul le le'

-- ---- the whole
pub data_again : (size limit : ℕ) (h : Holds size limit) (items : List (List ℕ)) (rest : List ℕ) → length items < 65536 → 1 + length (concat items) ≤ limit
    → index_data size (length items) (numbers size (1 ∷ offsets 1 items) ++ (concat items ++ rest)) ≡ Some (map Some items, rest)
unfolding index_data
data_again size limit h items rest few le =
    let room : (length items + 1) * size ≤ 65536 * 4 = product_le (length items + 1) 65536 size 4 (omega arith) h.small in
    let fits = le-ltb offsets_limit ((length items + 1) * size) (omega (arith, room)) in
    let ns = 1 ∷ offsets 1 items in
    let all : AllByRecursion (λ n. n ≤ limit) ns = (omega arith, offsets_within limit 1 items le) in
    let count = length-offsets 1 items in
    let len : (length items + 1) * size ≡ length (numbers size ns) = ap (λ (n : ℕ). n * size) (omega (arith, count)) ∙ sym (length-numbers size limit h ns) in
    let each : (j : ℕ) → j ≤ length items → offset_at size (numbers size ns) j ≡ get_or ns j 0 = λ j lt. offset_is size limit h ns j all (omega arith) in
    let each' : (j : ℕ) → j ≤ length items → offset_at size (numbers size ns) (0 + j) ≡ get_or ns j 0 = λ j lt. rw zero-add (each j lt) in
    let last : offset_at size (numbers size ns) (length items) ≡ 1 + length (concat items) = each (length items) (omega arith) ∙ last-offsets 1 items in
    let nonzero : eqb (1 + length (concat items)) 0 ≡ false = ne_eqb _ 0 (λ z. omega arith) in
    let object_data = part_again (concat items) (1 + length (concat items) - 1) (omega arith) rest in
    rw (fits, part_again (numbers size ns) ((length items + 1) * size) len (concat items ++ rest), last, object_data, nonzero, entries_are [] items 1 0 (offset_at size (numbers size ns)) refl each') refl

pub body_again : (size limit : ℕ) (h : Holds size limit) (items : List (List ℕ)) (rest : List ℕ) → length items < 65536 → 1 + length (concat items) ≤ limit
    → index_body (length items) (size ∷ (numbers size (1 ∷ offsets 1 items) ++ (concat items ++ rest))) ≡ Some (map Some items, rest)
unfolding index_body
body_again size limit h items rest few le =
    rw (byte_again size (numbers size (1 ∷ offsets 1 items) ++ (concat items ++ rest)), h.size) (data_again size limit h items rest few le)

regroup : (a b c d : List ℕ) (s : ℕ) → ((a ++ (s ∷ b)) ++ c) ++ d ≡ a ++ (s ∷ (b ++ (c ++ d)))
regroup a b c d s = simp append_assoc

counted : (n : ℕ) (tail : List ℕ) → 0 < n → n < 65536 → index_at (bytes_high_first 2 n ++ tail) ≡ index_body n tail
unfolding index_of
counted n tail some few = rw (card_again 2 n refl (be_bytes2 n few) tail, ne_eqb n 0 (λ z. omega arith), ne_eqb n 4294967295 (λ z. omega arith)) refl

none_counted : (rest : List ℕ) → index_at (0 ∷ 0 ∷ rest) ≡ Some ([], rest)
unfolding index_of
none_counted rest = rw (card_again 2 0 refl refl rest) refl

pub index_again : (items : List (List ℕ)) → FitIndex items → ReadAgain index_at (index items) (map Some items)
unfolding index header
index_again [] fits rest = none_counted rest
index_again (item ∷ items) fits rest =
    let all = item ∷ items in
    let n = length all in
    let size = offset_size (length (concat all) + 1) in
    let offs = numbers size (1 ∷ offsets 1 all) in
    ap index_at (regroup (bytes_high_first 2 n) offs (concat all) rest size)
    ∙ counted n (size ∷ (offs ++ (concat all ++ rest))) (omega arith) fits.count
    ∙ body_again size (length (concat all) + 1) (holds (length (concat all) + 1) fits.size) all rest fits.count (omega arith)

-- ---- how many bytes there are
pub length-none : (items : List (List ℕ)) → length items ≡ 0 → 2 ≡ length (index items)
unfolding index
length-none [] none = refl
length-none (item ∷ items) none = absurd (omega arith)

length-index : (items : List (List ℕ)) → 0 < length items → FitIndex items → length (index items) ≡ 3 + offset_size (length (concat items) + 1) * (length items + 1) + length (concat items)
unfolding index header
length-index [] some fits = absurd (omega arith)
length-index (item ∷ items) some fits =
    let all : List (List ℕ) = item ∷ items in
    let total = length (concat all) + 1 in
    let size = offset_size total in
    let ns = numbers size (1 ∷ offsets 1 all) in
    let count : length (1 ∷ offsets 1 all) ≡ length all + 1 = omega (arith, length-offsets 1 all) in
    let len : length ns ≡ (length all + 1) * size = length-numbers size total (holds total fits.size) (1 ∷ offsets 1 all) ∙ ap (λ (n : ℕ). n * size) count in
    let product : size * (length all + 1) ≡ (length all + 1) * size = omega arith in
    omega (arith, length-append (bytes_high_first 2 (length all) ++ (size ∷ ns)) (concat all), length-append (bytes_high_first 2 (length all)) (size ∷ ns), len, product)

pub length-by : (items : List (List ℕ)) (count total size : ℕ) → count ≡ length items → total ≡ length (concat items) + 1 → 0 < count → FitIndex items → size ≡ 3 + offset_size total * (count + 1) + total → size - 1 ≡ length (index items)
length-by items count total size n t some fits e =
    let is : length (index items) ≡ 3 + offset_size total * (count + 1) + length (concat items) =
    length-index items (omega (arith, n)) fits
    ∙ ap (λ (k : ℕ). 3 + offset_size k * (length items + 1) + length (concat items)) (sym t)
    ∙ ap (λ (k : ℕ). 3 + offset_size total * (k + 1) + length (concat items)) (sym n) in
    omega (arith, is, e, t)
