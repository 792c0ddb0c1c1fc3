-- Which numbers a list of glyphs has, and how many of them there can be.
--   index-finds, index-Contains, Contains-index     an index, and being there
--   known-with_glyph, known-with_glyphs             what a grown list has
--   room_left_for_zero, none_left_out               when all glyphs above 0 are given
--   ascending                                       what rising glyphs make of the list 0
use Rattle.std.proofs.Common.{◌≡◌, ℕ, zero, suc, ◌+◌, ◌<◌, ◌≤◌, Bool, true, false, cond, eqb, ◌||◌, List, [], ◌∷◌, ◌++◌, length, get_or, drop, Option, Some, None, refl, sym, ap, ◌∙◌, subst, inl, inr, ◌⊎◌, arith}
use Rattle.std.specs.Prelude.{is_some, Contains}
use Rattle.std.specs.List.{list_any, IsDistinct}
use Rattle.std.specs.List.Sorted.{IsStrictlyIncreasing, IsPermutation, IsSorted}
use Rattle.std.specs.Ordering.{nat_cmp}
use Rattle.std.proofs.lemmas.List.Sorted.{IsNonDecreasingBy-from_sort, IsPermutation-sym, Contains-permutation}
use Rattle.std.specs.Option.{option_map}
use Rattle.std.proofs.lemmas.Bool.{cases_lt, cases_eq, cases_Bool, eqb-true, eq-eqb, ne_eqb, or_left, or_right, or_cases, false≢true}
use Rattle.std.proofs.Math.Bool.{or-true}
use Rattle.std.proofs.Math.ListN.{drop_of_length-le}
use Rattle.std.proofs.lemmas.List.{length_push, get_or_append_left, get_or_push, get_or_default}
use Rattle.std.proofs.lemmas.Map.Keys.{IsDistinct-from_apart}
use Rattle.std.proofs.lemmas.Map.Steps.{length-le_from_distinct_below, le-length_from_below}
use Rattle.subsetter_base.specs.Indexes.{index_of, with_glyph, with_glyphs, IsWithoutRepeats, HasAllAboveZero, IsAscending}
use Rattle.subsetter_base.proofs.Options.{some_of, none_of}
use Rattle.subsetter_base.proofs.IndexLemmas.{index-push, IsWithoutRepeats-push}

-- the list has the number
abbrev pub known : List ℕ → ℕ → Bool
known xs q = is_some (index_of xs q)

or_false : (b : Bool) → (b || false) ≡ b
or_false true = refl
or_false false = refl

eqb-flip : (a b : ℕ) → eqb a b ≡ eqb b a
eqb-flip a b = elim (cases_eq a b) [
  | inl same ↦ eq-eqb a b same ∙ sym (eq-eqb b a (sym same))
  | inr other ↦ ne_eqb a b other ∙ sym (ne_eqb b a (λ e. other (sym e)))
]

positive : (n : ℕ) → (0 ≡ n → ⊥) → 0 < n
positive zero other = absurd (other refl)
positive (suc n) other = omega arith

strictly : (a b : ℕ) → a ≤ b → (a ≡ b → ⊥) → a < b
strictly a b le other = elim (cases_lt a b) [ inl lt ↦ lt | inr ge ↦ absurd (other (omega arith)) ]

-- ---- an index, and being there

known-cons : (y : ℕ) (ys : List ℕ) (q : ℕ) → known (y ∷ ys) q ≡ (eqb y q || known ys q)
known-cons y ys q = elim (eqb y q) as (λ b. is_some (cond b (Some 0) (option_map (λ i. i + 1) (index_of ys q))) ≡ (b || known ys q)) [
  | true ↦ refl
  | false ↦ elim (index_of ys q) as (λ o. is_some (option_map (λ i. i + 1) o) ≡ is_some o) [ None ↦ refl | Some i ↦ refl ]
]

found_in : (b : Bool) (o : Option ℕ) (i : ℕ) → cond b (Some 0) (option_map (λ k. k + 1) o) ≡ Some i → ((b ≡ true) × (i ≡ 0)) ⊎ ((k : ℕ) × (o ≡ Some k) × (i ≡ suc k))
found_in true o i e = inl (refl, cc)
found_in false None i e = absurd cc
found_in false (Some k) i e = inr (k, refl, let f : Some (k + 1) ≡ Some i = e in let g : k + 1 ≡ i = cc in omega arith)

pub index-finds : (xs : List ℕ) (q i : ℕ) → index_of xs q ≡ Some i → (i < length xs) × (get_or xs i 0 ≡ q)
index-finds [] q i e = absurd cc
index-finds (y ∷ ys) q i e = elim (found_in (eqb y q) (index_of ys q) i e) [
  | inl here ↦ rw here.1 (omega arith, eqb-true y q here.0)
  | inr there ↦ let before = index-finds ys q there.0 there.1 in rw there.2 (omega (arith, before.0), before.1)
]

pub index-Contains : (xs : List ℕ) (q : ℕ) → known xs q ≡ true → Contains xs q
index-Contains xs q e =
    let at = some_of (index_of xs q) e in
    let is = index-finds xs q at.0 at.1 in
    (at.0, is.0, get_or_default xs at.0 q 0 is.0 ∙ is.1)

pub known-at : (xs : List ℕ) (i d : ℕ) → i < length xs → known xs (get_or xs i d) ≡ true
known-at [] i d lt = absurd (omega (arith, lt))
known-at (y ∷ ys) zero d lt = known-cons y ys y ∙ ap (λ b. b || known ys y) (eq-eqb y y refl)
known-at (y ∷ ys) (suc i) d lt = known-cons y ys (get_or ys i d) ∙ ap (λ b. eqb y (get_or ys i d) || b) (known-at ys i d (omega arith)) ∙ or-true (eqb y (get_or ys i d))

pub Contains-index : (xs : List ℕ) (q : ℕ) → Contains xs q → known xs q ≡ true
Contains-index xs q c = ap (known xs) (sym c.2) ∙ known-at xs c.0 q c.1

-- ---- what a grown list has

grown : (b known_x same : Bool) → (b ≡ true → same ≡ true → known_x ≡ true) → cond b known_x (same || known_x) ≡ (known_x || same)
grown true true same h = refl
grown true false true h = h refl refl
grown true false false h = refl
grown false true true h = refl
grown false true false h = refl
grown false false true h = refl
grown false false false h = refl

pushed_known : (xs : List ℕ) (x q : ℕ) → known xs x ≡ false → known (xs ++ x ∷ []) q ≡ (eqb x q || known xs q)
pushed_known xs x q absent =
    ap is_some (index-push xs x q (length xs) (none_of (index_of xs x) absent) refl)
    ∙ elim (eqb x q) as (λ b. is_some (cond b (Some (length xs)) (index_of xs q)) ≡ (b || known xs q)) [ true ↦ refl | false ↦ refl ]

pub known-with_glyph : (xs : List ℕ) (x q : ℕ) → known (with_glyph xs x) q ≡ (known xs q || eqb x q)
known-with_glyph xs x q = elim (cases_Bool (known xs x)) [
  | inl there ↦
      ap (λ b. known (cond b xs (xs ++ x ∷ [])) q) there ∙ grown true (known xs q) (eqb x q) (λ _ e. ap (known xs) (sym (eqb-true x q e)) ∙ there)
  | inr absent ↦
      ap (λ b. known (cond b xs (xs ++ x ∷ [])) q) absent ∙ pushed_known xs x q absent ∙ grown false (known xs q) (eqb x q) (λ e. absurd (false≢true e))
]

or-assoc : (a b c : Bool) → ((a || b) || c) ≡ (a || (b || c))
or-assoc true b c = refl
or-assoc false b c = refl

pub known-with_glyphs : (ys xs : List ℕ) (q : ℕ) → known (with_glyphs xs ys) q ≡ (known xs q || known ys q)
known-with_glyphs [] xs q = sym (or_false (known xs q))
known-with_glyphs (y ∷ ys) xs q =
    known-with_glyphs ys (with_glyph xs y) q
    ∙ ap (λ b. b || known ys q) (known-with_glyph xs y q)
    ∙ or-assoc (known xs q) (eqb y q) (known ys q)
    ∙ ap (λ b. known xs q || b) (sym (known-cons y ys q))

-- what glyph 0 and others have
pub known-all : (glyphs : List ℕ) (q : ℕ) → known (with_glyphs (0 ∷ []) glyphs) q ≡ (eqb 0 q || known glyphs q)
known-all glyphs q = known-with_glyphs glyphs (0 ∷ []) q ∙ ap (λ b. b || known glyphs q) (known-cons 0 [] q ∙ or_false (eqb 0 q))

-- ---- how many numbers there can be

any-is_known : (xs : List ℕ) (q : ℕ) → list_any (eqb q) xs ≡ known xs q
any-is_known [] q = refl
any-is_known (y ∷ ys) q = ap (λ b. eqb q y || b) (any-is_known ys q) ∙ ap (λ b. b || known ys q) (eqb-flip q y) ∙ sym (known-cons y ys q)

pub IsDistinct-indexes : (xs : List ℕ) → IsWithoutRepeats xs → IsDistinct eqb xs
IsDistinct-indexes xs once = IsDistinct-from_apart eqb xs (λ i j d below lt.
    let x = get_or_default xs i d 0 (omega arith) in
    let y = get_or_default xs j d 0 lt in
    ne_eqb (get_or xs i d) (get_or xs j d) (λ same.
    let e : Some i ≡ Some j = sym (once i (omega arith)) ∙ ap (index_of xs) (sym x ∙ same ∙ y) ∙ once j lt in
    let f : i ≡ j = cc in
    absurd (omega (arith, below, f))))

pub below : (n : ℕ) (xs : List ℕ) → ((i : ℕ) → get_or xs i 0 < n) → (q : ℕ) → list_any (eqb q) xs ≡ true → q < n
below n xs small q e =
    let at = some_of (index_of xs q) (sym (any-is_known xs q) ∙ e) in
    let is = (index-finds xs q at.0 at.1).1 in
    omega (arith, small at.0, is)

-- at most n numbers below n
pub length-le_small : (n : ℕ) (xs : List ℕ) → IsWithoutRepeats xs → ((i : ℕ) → get_or xs i 0 < n) → length xs ≤ n
length-le_small n xs once small = length-le_from_distinct_below xs n (IsDistinct-indexes xs once) (below n xs small)

pub small-push : (n : ℕ) (xs : List ℕ) (x : ℕ) → ((i : ℕ) → get_or xs i 0 < n) → x < n → (i : ℕ) → get_or (xs ++ x ∷ []) i 0 < n
small-push n [] x small lt zero = lt
small-push n [] x small lt (suc i) = small zero
small-push n (y ∷ ys) x small lt zero = small zero
small-push n (y ∷ ys) x small lt (suc i) = small-push n ys x (λ k. small (suc k)) lt i

-- where all glyphs above 0 are given, glyph 0 and they are 65536
pub room_left_for_zero : (glyphs : List ℕ) → length (with_glyphs (0 ∷ []) glyphs) ≤ 65535 → HasAllAboveZero glyphs → ⊥
room_left_for_zero glyphs few all =
    let total = with_glyphs (0 ∷ []) glyphs in
    let each : (q : ℕ) → q < 65536 → list_any (eqb q) total ≡ true = λ q lt. any-is_known total q ∙ known-all glyphs q ∙ elim (cases_eq 0 q) [
      | inl zero_is ↦ or_left (eqb 0 q) (known glyphs q) (eq-eqb 0 q zero_is)
      | inr other ↦ or_right (eqb 0 q) (known glyphs q) (Contains-index glyphs q (all q (positive q other) (omega (arith, lt))))
    ] in
    absurd (omega (arith, few, le-length_from_below total 65536 each))

two_known : (a b c : Bool) → (a || b) ≡ c → c ≡ false → (a ≡ false) × (b ≡ false)
two_known true b c e f = absurd (false≢true (sym (e ∙ f)))
two_known false b c e f = (refl, e ∙ f)

-- an unknown glyph past 65535 others: each glyph above 0 was given, as 65537 glyphs would be too many
pub none_left_out : (xs glyphs : List ℕ) (i x : ℕ) → with_glyphs xs (drop i glyphs) ≡ with_glyphs (0 ∷ []) glyphs → i < length glyphs → x ≡ get_or glyphs i 0
    → known xs x ≡ false → x < 65536 → length xs ≡ 65535 → IsWithoutRepeats xs → ((k : ℕ) → get_or xs k 0 < 65536) → HasAllAboveZero glyphs
none_left_out xs glyphs i x so_far lt is absent fits full once small y above most = elim (cases_Bool (known glyphs y)) [
  | inl given ↦ index-Contains glyphs y given
  | inr lacking ↦
      let not_zero : eqb 0 y ≡ false = ne_eqb 0 y (λ e. absurd (omega (arith, above, e))) in
      let in_total : known (with_glyphs (0 ∷ []) glyphs) y ≡ false = known-all glyphs y ∙ ap (λ b. b || known glyphs y) not_zero ∙ lacking in
      let in_parts : (known xs y || known (drop i glyphs) y) ≡ known (with_glyphs (0 ∷ []) glyphs) y = sym (known-with_glyphs (drop i glyphs) xs y) ∙ ap (λ l. known l y) so_far in
      let not_held : known xs y ≡ false = (two_known (known xs y) (known (drop i glyphs) y) (known (with_glyphs (0 ∷ []) glyphs) y) in_parts in_total).0 in
      let other : eqb x y ≡ false = ne_eqb x y (λ e. false≢true (sym lacking ∙ ap (known glyphs) (sym e ∙ is) ∙ known-at glyphs i 0 lt)) in
      let longer = xs ++ x ∷ [] in
      let unknown : known longer y ≡ false = pushed_known xs x y absent ∙ ap (λ b. b || known xs y) other ∙ not_held in
      let longer_once = IsWithoutRepeats-push xs x (none_of (index_of xs x) absent) once in
      let longest_once = IsWithoutRepeats-push longer y (none_of (index_of longer y) unknown) longer_once in
      let longest_small = small-push 65536 longer y (small-push 65536 xs x small fits) (omega (arith, most)) in
      absurd (omega (arith, full, length_push xs x, length_push longer y, length-le_small 65536 (longer ++ y ∷ []) longest_once longest_small))
]

-- ---- rising lists

-- x is at or above each number
abbrev Tops : List ℕ → ℕ → Type 0
Tops xs x = (k : ℕ) → k < length xs → get_or xs k 0 ≤ x

rising_push : (xs : List ℕ) (x : ℕ) → IsStrictlyIncreasing xs → Tops xs x → known xs x ≡ false → IsStrictlyIncreasing (xs ++ x ∷ [])
rising_push xs x rises tops absent k lt = elim (cases_lt (k + 1) (length xs)) [
  | inl inside ↦
      let a = get_or_append_left xs (x ∷ []) 0 k (omega arith) in
      let b = get_or_append_left xs (x ∷ []) 0 (k + 1) inside in
      omega (arith, a, b, rises k inside)
  | inr last ↦
      let end : length xs ≡ k + 1 = omega (arith, length_push xs x, lt, last) in
      let a = get_or_append_left xs (x ∷ []) 0 k (omega arith) in
      let b = get_or_push xs x 0 (k + 1) end in
      let other : get_or xs k 0 ≡ x → ⊥ = λ e. false≢true (sym absent ∙ ap (known xs) (sym e) ∙ known-at xs k 0 (omega arith)) in
      let under = tops k (omega arith) in
      omega (arith, a, b, strictly (get_or xs k 0) x under other)
]

tops_push : (xs : List ℕ) (x : ℕ) → Tops xs x → Tops (xs ++ x ∷ []) x
tops_push xs x tops k lt = elim (cases_lt k (length xs)) [
  | inl inside ↦ omega (arith, get_or_append_left xs (x ∷ []) 0 k inside, tops k inside)
  | inr last ↦ omega (arith, get_or_push xs x 0 k (omega (arith, length_push xs x, lt, last)))
]

pub record Rising (xs : List ℕ) (x : ℕ) : Type 0 where
  pub rises : IsStrictlyIncreasing xs
  pub tops : Tops xs x

rising_one : (xs : List ℕ) (x : ℕ) → Rising xs x → Rising (with_glyph xs x) x
rising_one xs x r = elim (cases_Bool (known xs x)) [
  | inl there ↦ subst (λ l. Rising l x) (sym (ap (λ b. cond b xs (xs ++ x ∷ [])) there)) r
  | inr absent ↦ subst (λ l. Rising l x) (sym (ap (λ b. cond b xs (xs ++ x ∷ [])) absent)) (record {
    rises = rising_push xs x r.rises r.tops absent;
    tops = tops_push xs x r.tops;
  })
]

-- each number is at or below those after it
abbrev Climbs : List ℕ → Type 0
Climbs [] = Unit {0}
Climbs (x ∷ xs) = ((k : ℕ) → k < length xs → x ≤ get_or xs k 0) × Climbs xs

rising_all : (ys xs : List ℕ) → Climbs ys → IsStrictlyIncreasing xs → ((k : ℕ) → k < length ys → Tops xs (get_or ys k 0)) → IsStrictlyIncreasing (with_glyphs xs ys)
rising_all [] xs climbs rises tops = rises
rising_all (y ∷ ys) xs climbs rises tops =
    let one = rising_one xs y (record { rises = rises; tops = tops 0 (omega arith) }) in
    rising_all ys (with_glyph xs y) climbs.1 one.rises (λ k lt j inside. let a = one.tops j inside in let b = climbs.0 k lt in omega (arith, a, b))

climbs_from : (xs : List ℕ) → ((i j : ℕ) → i ≤ j → j < length xs → get_or xs i 0 ≤ get_or xs j 0) → Climbs xs
climbs_from [] up = tt
climbs_from (x ∷ xs) up = ((λ k lt. up zero (suc k) (omega arith) (omega (arith, lt))), climbs_from xs (λ i j le lt. up (suc i) (suc j) (omega (arith, le)) (omega (arith, lt))))

-- glyph 0 and sorted glyphs
pub ascending : (glyphs sorted : List ℕ) → IsPermutation glyphs sorted → IsSorted nat_cmp sorted → IsAscending glyphs (with_glyphs (0 ∷ []) sorted)
ascending glyphs sorted same order =
    let up = IsNonDecreasingBy-from_sort (λ x. x) sorted order in
    let total = with_glyphs (0 ∷ []) sorted in
    let zero_first : (k : ℕ) → k < length sorted → Tops (0 ∷ []) (get_or sorted k 0) = λ k lt j inside. elim j as (λ j. get_or (0 ∷ []) j 0 ≤ get_or sorted k 0) [ zero ↦ omega arith | suc j ↦ omega arith ] in
    record {
      rises = rising_all sorted (0 ∷ []) (climbs_from sorted (λ i j le lt. up i j 0 le lt)) (λ k lt. absurd (omega (arith, lt))) zero_first;
      members = λ x. (
        (λ there. elim (or_cases (eqb 0 x) (known sorted x) (sym (known-all sorted x) ∙ Contains-index total x there)) [
          | inl is_zero ↦ inl (sym (eqb-true 0 x is_zero))
          | inr given ↦ inr (Contains-permutation sorted glyphs x (IsPermutation-sym glyphs sorted same) (index-Contains sorted x given))
        ]),
        (λ given. index-Contains total x (known-all sorted x ∙ elim given [
          | inl is_zero ↦ or_left (eqb 0 x) (known sorted x) (eq-eqb 0 x (sym is_zero))
          | inr among ↦ or_right (eqb 0 x) (known sorted x) (Contains-index sorted x (Contains-permutation glyphs sorted x same among))
        ])),
      );
    }

pub HasAllAboveZero-permutation : (xs ys : List ℕ) → IsPermutation xs ys → HasAllAboveZero xs → HasAllAboveZero ys
HasAllAboveZero-permutation xs ys same all x above most = Contains-permutation xs ys x same (all x above most)

-- nothing is left to go in
pub done : (xs ys glyphs : List ℕ) (i : ℕ) → with_glyphs xs (drop i glyphs) ≡ with_glyphs ys glyphs → length glyphs ≤ i → xs ≡ with_glyphs ys glyphs
done xs ys glyphs i so_far past = ap (with_glyphs xs) (sym (drop_of_length-le glyphs past)) ∙ so_far
