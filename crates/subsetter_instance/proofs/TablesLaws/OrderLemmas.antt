-- The requested glyphs, from the lowest to the highest.
use Rattle.std.proofs.Common.{◌≡◌, ℕ, ◌+◌, ◌<◌, ◌≤◌, List, [], ◌∷◌, ◌++◌, length, get_or, inl, inr, ◌⊎◌, subst, ◌∙◌, arith}
use Rattle.std.specs.Prelude.{Contains}
use Rattle.std.specs.List.Sorted.{IsPermutation, IsSorted}
use Rattle.std.specs.Ordering.{nat_cmp}
use Rattle.std.proofs.lemmas.Bool.{cases_lt, cases_Bool}
use Rattle.std.proofs.lemmas.List.{get_or_default}
use Rattle.std.proofs.lemmas.List.Sorted.{IsNonDecreasingBy-from_sort, Contains-permutation}
use Rattle.subsetter_base.specs.Indexes.{index_of}
use Rattle.subsetter_base.proofs.GlyphLemmas.{known, index-Contains}
use Rattle.subsetter_base.proofs.Options.{none_of}
use Rattle.subsetter_instance.specs.Tables.Requested.{IsGap, IsOrder}

-- two gaps in turn
gaps : (glyphs : List ℕ) (from mid to : ℕ) → IsGap glyphs from mid → IsGap glyphs mid to → IsGap glyphs from to
gaps glyphs from mid to a b g low high = elim (cases_lt g mid) [ inl lt ↦ a g low lt | inr ge ↦ b g ge high ]

no_glyphs : (glyphs : List ℕ) (n : ℕ) → IsGap glyphs n n
no_glyphs glyphs n g low high = absurd (omega arith)

-- before the first one
pub order_none : (glyphs : List ℕ) → IsOrder glyphs 0 0 []
order_none glyphs = record { within = omega arith; none = no_glyphs glyphs 0 }

-- one more
pub order_push : (glyphs : List ℕ) (n g from : ℕ) (order : List ℕ) → IsOrder glyphs n from order → n ≤ g → IsGap glyphs n g → IsOrder glyphs (g + 1) from (order ++ g ∷ [])
order_push glyphs n g from [] e le gap =
    let within = e.within in
    (record { above = omega arith; below = omega arith; none = gaps glyphs from n g e.none gap }, record { within = omega arith; none = no_glyphs glyphs (g + 1) })
order_push glyphs n g from (x ∷ order) o le gap =
    let below = o.0.below in
    (record { above = o.0.above; below = omega arith; none = o.0.none }, order_push glyphs n g (x + 1) order o.1 le gap)

-- after the last one
pub order_end : (glyphs : List ℕ) (n m from : ℕ) (order : List ℕ) → IsOrder glyphs n from order → n ≤ m → IsGap glyphs n m → IsOrder glyphs m from order
order_end glyphs n m from [] e le gap = let within = e.within in record { within = omega arith; none = gaps glyphs from n m e.none gap }
order_end glyphs n m from (x ∷ order) o le gap =
    let below = o.0.below in
    (record { above = o.0.above; below = omega arith; none = o.0.none }, order_end glyphs n m (x + 1) order o.1 le gap)

-- the glyphs that were looked at are below a number, or none of the font's
abbrev pub AreSeen : List ℕ → ℕ → ℕ → ℕ → Type 0
AreSeen sorted next count k = (j : ℕ) → j < k → (get_or sorted j 0 < next) ⊎ (count ≤ get_or sorted j 0)

-- one more of them
pub seen_more : (sorted : List ℕ) (next later count k : ℕ) → AreSeen sorted next count k → next ≤ later → (get_or sorted k 0 < later) ⊎ (count ≤ get_or sorted k 0) → AreSeen sorted later count (k + 1)
seen_more sorted next later count k seen le here j lt = elim (cases_lt j k) [
  | inl before ↦ elim (seen j before) [ inl below ↦ inl (omega arith) | inr past ↦ inr past ]
  | inr after ↦ let same : k ≡ j = omega arith in subst (λ (i : ℕ). (get_or sorted i 0 < later) ⊎ (count ≤ get_or sorted i 0)) same here
]

-- so those between that number and the next glyph weren't requested
pub gap_before : (glyphs sorted : List ℕ) (next count k to : ℕ) → IsPermutation glyphs sorted → IsSorted nat_cmp sorted → AreSeen sorted next count k → to ≤ count → ((j : ℕ) → k ≤ j → j < length sorted → to ≤ get_or sorted j 0) → IsGap glyphs next to
gap_before glyphs sorted next count k to same up seen le later q low high = elim (cases_Bool (known glyphs q)) [
  | inl there ↦
      let c : Contains sorted q = Contains-permutation glyphs sorted q same (index-Contains glyphs q there) in
      let is : get_or sorted c.0 0 ≡ q = get_or_default sorted c.0 0 q c.1 ∙ c.2 in
      absurd (elim (cases_lt c.0 k) [
        | inl before ↦ elim (seen c.0 before) [ inl below ↦ omega arith | inr past ↦ omega arith ]
        | inr after ↦ let far = later c.0 after c.1 in omega arith
      ])
  | inr absent ↦ none_of (index_of glyphs q) absent
]

-- the glyphs from one on are at least as great
pub none_later : (sorted : List ℕ) (k j : ℕ) → IsSorted nat_cmp sorted → k ≤ j → j < length sorted → get_or sorted k 0 ≤ get_or sorted j 0
none_later sorted k j up le lt = IsNonDecreasingBy-from_sort (λ x. x) sorted up k j 0 le lt
