-- An item is refused exactly where it has a fault.
--   row_refused, row_clean       the row of an item
--   item_refused, item_clean     the item, whose regions are in the store's list
use Rattle.std.proofs.Common.{◌≡◌, ◌≢◌, ℕ, zero, suc, ◌+◌, ◌*◌, ◌<◌, ◌≤◌, Bool, true, false, cond, List, length, Option, Some, None, ℤ, pos, refl, sym, ap, subst, ◌∙◌, ◌⊎◌, inl, inr, arith}
use Rattle.std.specs.Prelude.{◌&&◌, ◌%◌, ◌==◌, ◌+ℤ◌, ◌*ℤ◌, nat_le, nat_lt, if◌then◌else◌}
use Rattle.std.specs.Int.{w8, w16, w32, cast_signed}
use Rattle.std.specs.Option.{option_map}
use Rattle.std.proofs.lemmas.Bool.{cases_lt, leb-false, leb-true, ltb-false, ltb-true}
use Rattle.std.proofs.Math.Nat.{add-mul, mul-le-mul_right}
use Rattle.subsetter_base.specs.Bytes.{number, range}
use Rattle.subsetter_base.specs.Items.{Items}
use Rattle.subsetter_base.proofs.ByteLemmas.{number-fits, number-short, range-fits, range-length, range-short}
use Rattle.subsetter_base.proofs.Options.{bind_some, just, just_is, map_none}
use Rattle.subsetter_base.specs.Options.{◌>>=◌}
use Rattle.subsetter_variation.specs.Items.ItemVariations.{Row, Store, byte_delta, delta, item_delta, item_row, item_store, nullable_offset, region_items, region_of, row_in, row_size, term, terms, word_delta}
use Rattle.subsetter_variation.specs.Region.{scalar}
use Rattle.subsetter_instance.specs.Faults.ItemFault.{HasRowFault, HasItemFault, HasIndexedFault, cut_counts, no_row, many_words, cut_indexes, cut_row, cut_data_count, no_data, cut_data_offset, null_data, in_row, no_region}
use Rattle.subsetter_instance.proofs.FaultLaws.Parts.{bind_none, if_none, if_some, not_long, not_short, some_is_not}
use Rattle.subsetter_instance.proofs.FaultLaws.ItemLaws.Stores.{offset_none, offset_some, store_steps}

-- ---- rows

module _ (bytes : List ℕ) (at inner : ℕ) where
  -- how many words a row has, whether words are long, and its size
  abbrev words_of : ℕ → ℕ
  words_of words = words % 32768

  abbrev is_long : ℕ → Bool
  is_long words = nat_le 32768 words

  abbrev size_of : ℕ → ℕ → ℕ
  size_of words count = row_size count (words_of words) (is_long words)

  abbrev made_row : ℕ → ℕ → List ℕ → List ℕ → Option Row
  made_row words count indexes deltas = Some (record { count = count; words = words_of words; long = is_long words; indexes = indexes; deltas = deltas })

  abbrev after_indexes : ℕ → ℕ → List ℕ → Option Row
  after_indexes words count indexes = range bytes (at + 6 + count * 2 + inner * size_of words count) (size_of words count) >>= made_row words count indexes

  abbrev row_of : ℕ → ℕ → Option Row
  row_of words count = range bytes (at + 6) (count * 2) >>= after_indexes words count

  abbrev after_row_count : ℕ → ℕ → ℕ → Option Row
  after_row_count items words count = cond (nat_lt inner items && nat_le (words_of words) count) (row_of words count) None

  abbrev after_words : ℕ → ℕ → Option Row
  after_words items words = number bytes (at + 4) 2 >>= after_row_count items words

  abbrev after_items : ℕ → Option Row
  after_items items = number bytes (at + 2) 2 >>= after_words items

  row_in_turn : row_in bytes at inner ≡ (number bytes at 2 >>= after_items)
  unfolding row_in
  row_in_turn = refl

  both_of : (a b : Bool) → (a && b) ≡ true → (a ≡ true) × (b ≡ true)
  both_of true b h = (refl, h)
  both_of false b h = absurd cc

  one_of : (a b : Bool) → (a && b) ≡ false → (a ≡ false) ⊎ (b ≡ false)
  one_of true b h = inr h
  one_of false b h = inl refl

  record RowSteps (r : Row) : Type 0 where
    items : ℕ
    items_are : number bytes at 2 ≡ Some items
    there : inner < items
    words : ℕ
    words_are : number bytes (at + 2) 2 ≡ Some words
    count_is : number bytes (at + 4) 2 ≡ Some r.count
    fewer : words_of words ≤ r.count
    same_words : words_of words ≡ r.words
    indexes : length r.indexes ≡ r.count * 2
    indexes_fit : at + 6 + r.count * 2 ≤ length bytes
    deltas : length r.deltas ≡ row_size r.count r.words r.long
    row_fits : at + 6 + r.count * 2 + inner * size_of words r.count + size_of words r.count ≤ length bytes

  row_steps : (r : Row) → row_in bytes at inner ≡ Some r → RowSteps r
  row_steps r h =
      let a = bind_some (number bytes at 2) after_items r (sym row_in_turn ∙ h) in
      let b = bind_some (number bytes (at + 2) 2) (after_words a.0) r a.2 in
      let c = bind_some (number bytes (at + 4) 2) (after_row_count a.0 b.0) r b.2 in
      let d = if_some (nat_lt inner a.0 && nat_le (words_of b.0) c.0) (row_of b.0 c.0) r c.2 in
      let p = both_of (nat_lt inner a.0) (nat_le (words_of b.0) c.0) d.0 in
      let e = bind_some (range bytes (at + 6) (c.0 * 2)) (after_indexes b.0 c.0) r d.1 in
      let f = bind_some (range bytes (at + 6 + c.0 * 2 + inner * size_of b.0 c.0) (size_of b.0 c.0)) (made_row b.0 c.0 e.0) r e.2 in
      let made : Row = record { count = c.0; words = words_of b.0; long = is_long b.0; indexes = e.0; deltas = f.0 } in
      let first : RowSteps made = record {
        items = a.0;
        items_are = a.1;
        there = ltb-true inner a.0 p.0;
        words = b.0;
        words_are = b.1;
        count_is = c.1;
        fewer = leb-true (words_of b.0) c.0 p.1;
        same_words = refl;
        indexes = range-length bytes e.0 (at + 6) (c.0 * 2) e.1;
        indexes_fit = range-fits bytes e.0 (at + 6) (c.0 * 2) e.1;
        deltas = range-length bytes f.0 (at + 6 + c.0 * 2 + inner * size_of b.0 c.0) (size_of b.0 c.0) f.1;
        row_fits = range-fits bytes f.0 (at + 6 + c.0 * 2 + inner * size_of b.0 c.0) (size_of b.0 c.0) f.1;
      } in
      subst RowSteps (just_is made r f.2) first

  row_refused : row_in bytes at inner ≡ None → HasRowFault bytes at inner
  row_refused h =
      elim (bind_none (number bytes at 2) after_items (sym row_in_turn ∙ h)) [
        | inl k ↦ cut_counts (let less = number-short bytes at 2 k in omega arith)
        | inr a ↦ elim (bind_none (number bytes (at + 2) 2) (after_words a.0) a.2) [
          | inl k ↦ cut_counts (let less = number-short bytes (at + 2) 2 k in omega arith)
          | inr b ↦ elim (bind_none (number bytes (at + 4) 2) (after_row_count a.0 b.0) b.2) [
            | inl k ↦ cut_counts (let less = number-short bytes (at + 4) 2 k in omega arith)
            | inr c ↦ elim (if_none (nat_lt inner a.0 && nat_le (words_of b.0) c.0) (row_of b.0 c.0) c.2) [
              | inl k ↦ elim (one_of (nat_lt inner a.0) (nat_le (words_of b.0) c.0) k) [
                | inl l ↦ no_row a.0 a.1 (ltb-false inner a.0 l)
                | inr l ↦ many_words b.0 c.0 b.1 c.1 (leb-false (words_of b.0) c.0 l)
              ]
              | inr k ↦ elim (bind_none (range bytes (at + 6) (c.0 * 2)) (after_indexes b.0 c.0) k.1) [
                | inl l ↦ cut_indexes c.0 c.1 (range-short bytes (at + 6) (c.0 * 2) l)
                | inr e ↦ elim (bind_none (range bytes (at + 6 + c.0 * 2 + inner * size_of b.0 c.0) (size_of b.0 c.0)) (made_row b.0 c.0 e.0) e.2) [
                  | inl l ↦ cut_row b.0 c.0 b.1 c.1 (range-short bytes (at + 6 + c.0 * 2 + inner * size_of b.0 c.0) (size_of b.0 c.0) l)
                  | inr l ↦ absurd cc
                ]
              ]
            ]
          ]
        ]
      ]

  row_clean : (r : Row) → row_in bytes at inner ≡ Some r → HasRowFault bytes at inner → ⊥
  row_clean r h f = by (row_steps r h) f
    where
      by : RowSteps r → HasRowFault bytes at inner → ⊥
      by t (cut_counts less) = let fits = number-fits bytes (at + 4) 2 r.count t.count_is in omega arith
      by t (no_row items is less) = let x : items ≡ t.items = just_is items t.items (sym is ∙ t.items_are) in let there = t.there in omega arith
      by t (many_words words count words_are count_is less) =
          let x : words ≡ t.words = just_is words t.words (sym words_are ∙ t.words_are) in
          let y : count ≡ r.count = just_is count r.count (sym count_is ∙ t.count_is) in
          let fewer : words_of words ≤ count = rw (x, y) t.fewer in
          omega arith
      by t (cut_indexes count is less) = let y : count ≡ r.count = just_is count r.count (sym is ∙ t.count_is) in let fits = t.indexes_fit in omega arith
      by t (cut_row words count words_are count_is less) =
          let x : words ≡ t.words = just_is words t.words (sym words_are ∙ t.words_are) in
          let y : count ≡ r.count = just_is count r.count (sym count_is ∙ t.count_is) in
          let fits : at + 6 + count * 2 + inner * size_of words count + size_of words count ≤ length bytes = rw (x, y) t.row_fits in
          omega arith

-- ---- items

-- where the data of an outer index are in a store
module _ (s : Store) (outer inner : ℕ) where
  abbrev data_at : ℕ → Option ℕ
  data_at count = cond (nat_lt outer count) (nullable_offset s.bytes (8 + outer * 4)) None

  abbrev row_after : ℕ → Option Row
  row_after at = row_in s.bytes at inner

  abbrev after_data_count : ℕ → Option Row
  after_data_count count = data_at count >>= row_after

  item_in_turn : item_row s outer inner ≡ (number s.bytes 6 2 >>= after_data_count)
  unfolding item_row
  item_in_turn = refl

  record ItemSteps (r : Row) : Type 0 where
    count : ℕ
    count_is : number s.bytes 6 2 ≡ Some count
    there : outer < count
    at : ℕ
    at_is : number s.bytes (8 + outer * 4) 4 ≡ Some at
    not_null : at ≢ 0
    row_is : row_in s.bytes at inner ≡ Some r

  item_steps : (r : Row) → item_row s outer inner ≡ Some r → ItemSteps r
  item_steps r h =
      let a = bind_some (number s.bytes 6 2) after_data_count r (sym item_in_turn ∙ h) in
      let b = bind_some (data_at a.0) row_after r a.2 in
      let c = if_some (nat_lt outer a.0) (nullable_offset s.bytes (8 + outer * 4)) b.0 b.1 in
      let o = offset_some s.bytes (8 + outer * 4) b.0 c.1 in
      record { count = a.0; count_is = a.1; there = ltb-true outer a.0 c.0; at = b.0; at_is = o.0; not_null = o.1; row_is = b.2 }

  no_item_row : item_row s outer inner ≡ None → HasItemFault s outer inner
  no_item_row h =
      elim (bind_none (number s.bytes 6 2) after_data_count (sym item_in_turn ∙ h)) [
        | inl k ↦ cut_data_count (number-short s.bytes 6 2 k)
        | inr a ↦ elim (bind_none (data_at a.0) row_after a.2) [
          | inl k ↦ elim (if_none (nat_lt outer a.0) (nullable_offset s.bytes (8 + outer * 4)) k) [
            | inl l ↦ no_data a.0 a.1 (ltb-false outer a.0 l)
            | inr l ↦ elim (offset_none s.bytes (8 + outer * 4) l.1) [
              | inl less ↦ cut_data_offset a.0 a.1 (ltb-true outer a.0 l.0) less
              | inr null ↦ null_data a.0 a.1 (ltb-true outer a.0 l.0) null
            ]
          ]
          | inr b ↦
              let c = if_some (nat_lt outer a.0) (nullable_offset s.bytes (8 + outer * 4)) b.0 b.1 in
              let o = offset_some s.bytes (8 + outer * 4) b.0 c.1 in
              in_row a.0 b.0 a.1 (ltb-true outer a.0 c.0) o.0 (row_refused s.bytes b.0 inner b.2)
        ]
      ]

-- ---- terms

-- the index of a region is there
index_there : (r : Row) (k : ℕ) → length r.indexes ≡ r.count * 2 → k < r.count → number r.indexes (k * 2) 2 ≡ None → ⊥
index_there r k long less none = not_short r.indexes (k * 2) 2 (omega arith) none

-- and its delta
word_there : (r : Row) (k : ℕ) (b : Bool) → length r.deltas ≡ (r.count + r.words) * (if b then 2 else 1) → r.words ≤ r.count → k < r.words → cond b (option_map (cast_signed w32) (number r.deltas (k * 4) 4)) (option_map (cast_signed w16) (number r.deltas (k * 2) 2)) ≡ None → ⊥
word_there r k true long fewer less none = not_short r.deltas (k * 4) 4 (omega arith) (map_none (cast_signed w32) (number r.deltas (k * 4) 4) none)
word_there r k false long fewer less none = not_short r.deltas (k * 2) 2 (omega arith) (map_none (cast_signed w16) (number r.deltas (k * 2) 2) none)

byte_there : (r : Row) (k : ℕ) (b : Bool) → length r.deltas ≡ (r.count + r.words) * (if b then 2 else 1) → k < r.count → cond b (option_map (cast_signed w16) (number r.deltas ((r.words + k) * 2) 2)) (option_map (cast_signed w8) (number r.deltas (r.words + k) 1)) ≡ None → ⊥
byte_there r k true long less none = not_short r.deltas ((r.words + k) * 2) 2 (omega arith) (map_none (cast_signed w16) (number r.deltas ((r.words + k) * 2) 2) none)
byte_there r k false long less none = not_short r.deltas (r.words + k) 1 (omega arith) (map_none (cast_signed w8) (number r.deltas (r.words + k) 1) none)

delta_there : (r : Row) (k : ℕ) → length r.deltas ≡ row_size r.count r.words r.long → r.words ≤ r.count → k < r.count → delta r k ≡ None → ⊥
delta_there r k long fewer less none = by (nat_lt k r.words) refl none
  where
    by : (b : Bool) → nat_lt k r.words ≡ b → cond b (word_delta r k) (byte_delta r k) ≡ None → ⊥
    by true t n = word_there r k r.long long fewer (ltb-true k r.words t) n
    by false t n = byte_there r k r.long long less n

-- a region that is listed has its bytes
region_size : (s : Store) → ℕ
region_size s = s.axis_count * 6

region_inside : (index count size : ℕ) → index < count → index * size + size ≤ count * size
region_inside index count size less = let more : (index + 1) * size ≤ count * size = mul-le-mul_right {m = index + 1} {n = count} size (omega arith) in omega (arith, add-mul index 1 size)

region_there : (s : Store) (index : ℕ) → length s.regions ≡ s.region_count * (s.axis_count * 6) → region_items s index ≡ None → s.region_count ≤ index
region_there s index long none = elim (if_none (nat_lt index s.region_count) (option_map (λ bytes. let i : Items = record { bytes = bytes; count = s.axis_count } in i) (range s.regions (index * (s.axis_count * 6)) (s.axis_count * 6))) none) [
  | inl k ↦ ltb-false index s.region_count k
  | inr k ↦
      let less = range-short s.regions (index * (s.axis_count * 6)) (s.axis_count * 6) (map_none (λ bytes. let i : Items = record { bytes = bytes; count = s.axis_count } in i) (range s.regions (index * (s.axis_count * 6)) (s.axis_count * 6)) k.1) in
      let inside = region_inside index s.region_count (s.axis_count * 6) (ltb-true index s.region_count k.0) in
      absurd (omega arith)
]

no_region_there : (s : Store) (index : ℕ) (i : Items) → region_items s index ≡ Some i → s.region_count ≤ index → ⊥
no_region_there s index i is le =
    let p = if_some (nat_lt index s.region_count) (option_map (λ bytes. let i : Items = record { bytes = bytes; count = s.axis_count } in i) (range s.regions (index * (s.axis_count * 6)) (s.axis_count * 6))) i is in
    let less = ltb-true index s.region_count p.0 in
    omega arith

module _ (s : Store) (at : List ℤ) (r : Row) where
  abbrev last_of : Items → ℤ → Option ℤ
  last_of region d = Some (scalar (region_of region) at *ℤ d)

  abbrev with_region : ℕ → Items → Option ℤ
  with_region k region = delta r k >>= last_of region

  abbrev with_index : ℕ → ℕ → Option ℤ
  with_index k index = region_items s index >>= with_region k

  term_in_turn : (k : ℕ) → term s at r k ≡ (number r.indexes (k * 2) 2 >>= with_index k)
  unfolding term
  term_in_turn k = refl

  -- a term is missing where its region isn't in the list
  term_refused : (k : ℕ) → length s.regions ≡ s.region_count * (s.axis_count * 6) → length r.indexes ≡ r.count * 2 → length r.deltas ≡ row_size r.count r.words r.long → r.words ≤ r.count → k < r.count → term s at r k ≡ None
      → (index : ℕ) × ((number r.indexes (k * 2) 2 ≡ Some index) × (s.region_count ≤ index))
  term_refused k regions indexes deltas fewer less h =
      elim (bind_none (number r.indexes (k * 2) 2) (with_index k) (sym (term_in_turn k) ∙ h)) [
        | inl n ↦ absurd (index_there r k indexes less n)
        | inr a ↦ elim (bind_none (region_items s a.0) (with_region k) a.2) [
          | inl n ↦ (a.0, (a.1, region_there s a.0 regions n))
          | inr b ↦ elim (bind_none (delta r k) (last_of b.0) b.2) [
            | inl n ↦ absurd (delta_there r k deltas fewer less n)
            | inr n ↦ absurd cc
          ]
        ]
      ]

  term_clean : (k index : ℕ) (v : ℤ) → term s at r k ≡ Some v → number r.indexes (k * 2) 2 ≡ Some index → s.region_count ≤ index → ⊥
  term_clean k index v h is le =
      let a = bind_some (number r.indexes (k * 2) 2) (with_index k) v (sym (term_in_turn k) ∙ h) in
      let b = bind_some (region_items s a.0) (with_region k) v a.2 in
      let same : a.0 ≡ index = just_is a.0 index (sym a.1 ∙ is) in
      no_region_there s a.0 b.0 b.1 (omega arith)

  abbrev with_first : ℕ → ℕ → ℤ → Option ℤ
  with_first n k first = terms s at r n (k + 1) >>= λ rest. Some (first +ℤ rest)

  terms_refused : (n k : ℕ) → terms s at r n k ≡ None → (i : ℕ) × ((i < k + n) × (term s at r i ≡ None))
  terms_refused zero k h = absurd cc
  terms_refused (suc n) k h =
      elim (bind_none (term s at r k) (with_first n k) h) [
        | inl l ↦ (k, (omega arith, l))
        | inr a ↦ elim (bind_none (terms s at r n (k + 1)) (λ rest. just (a.0 +ℤ rest)) a.2) [
          | inl l ↦ let t = terms_refused n (k + 1) l in let less = t.1.0 in (t.0, (omega arith, t.1.1))
          | inr l ↦ absurd (some_is_not (a.0 +ℤ l.0) l.2)
        ]
      ]

  terms_there : (n k i : ℕ) (v : ℤ) → terms s at r n k ≡ Some v → k ≤ i → i < k + n → (t : ℤ) × (term s at r i ≡ Some t)
  terms_there zero k i v h low high = absurd (omega arith)
  terms_there (suc n) k i v h low high =
      let a = bind_some (term s at r k) (with_first n k) v h in
      let b = bind_some (terms s at r n (k + 1)) (λ rest. just (a.0 +ℤ rest)) v a.2 in
      elim (cases_lt k i) [
        | inl less ↦ terms_there n (k + 1) i b.0 b.1 (omega arith) (omega arith)
        | inr le ↦ let same : k ≡ i = omega arith in (a.0, ap (term s at r) (sym same) ∙ a.1)
      ]

module _ (s : Store) (bytes : List ℕ) (read : item_store bytes ≡ Some s) (at : List ℤ) (outer inner : ℕ) where
  abbrev all_terms : Row → Option ℤ
  all_terms r = terms s at r r.count 0

  row_terms_refused : (r : Row) → item_row s outer inner ≡ Some r → all_terms r ≡ None → HasItemFault s outer inner
  row_terms_refused r is h =
      let i = item_steps s outer inner r is in
      let w = row_steps s.bytes i.at inner r i.row_is in
      let t = terms_refused s at r r.count 0 h in
      let less = t.1.0 in
      let same = w.same_words in
      let few = w.fewer in
      let n = term_refused s at r t.0 (store_steps bytes s read).regions w.indexes w.deltas (omega arith) (omega arith) t.1.1 in
      no_region r t.0 n.0 is (omega arith) n.1.0 n.1.1

  pub item_refused : item_delta s at outer inner ≡ None → HasIndexedFault s outer inner
  unfolding item_delta
  item_refused h = elim (unless_marked (outer == 65535 && inner == 65535) (item_row s outer inner >>= all_terms) h) [
    | inl k ↦ absurd k
    | inr k ↦ (k.0, elim (bind_none (item_row s outer inner) all_terms k.1) [ inl l ↦ no_item_row s outer inner l | inr l ↦ row_terms_refused l.0 l.1 l.2 ])
  ]
    where
      unless_marked : (b : Bool) (o : Option ℤ) → cond b (Some (pos 0)) o ≡ None → ⊥ ⊎ ((b ≡ false) × (o ≡ None))
      unless_marked true o k = absurd cc
      unless_marked false o k = inr (refl, k)

  pub item_clean : (v : ℤ) → item_delta s at outer inner ≡ Some v → HasIndexedFault s outer inner → ⊥
  unfolding item_delta
  item_clean v h f =
      let k = unmarked (outer == 65535 && inner == 65535) (item_row s outer inner >>= all_terms) f.0 h in
      let a = bind_some (item_row s outer inner) all_terms v k in
      by a.0 a.1 (item_steps s outer inner a.0 a.1) a.2 f.1
    where
      unmarked : (b : Bool) (o : Option ℤ) → b ≡ false → cond b (Some (pos 0)) o ≡ Some v → o ≡ Some v
      unmarked true o t k = absurd cc
      unmarked false o t k = k

      by : (r : Row) → item_row s outer inner ≡ Some r → ItemSteps s outer inner r → all_terms r ≡ Some v → HasItemFault s outer inner → ⊥
      by r is t read (cut_data_count less) = not_long s.bytes 6 2 t.count less t.count_is
      by r is t read (no_data count count_is le) = let x : count ≡ t.count = just_is count t.count (sym count_is ∙ t.count_is) in let there = t.there in omega arith
      by r is t read (cut_data_offset count count_is there less) = not_long s.bytes (8 + outer * 4) 4 t.at less t.at_is
      by r is t read (null_data count count_is there null) = t.not_null (just_is t.at 0 (sym t.at_is ∙ null))
      by r is t read (in_row count at count_is there at_is g) = row_clean s.bytes t.at inner r t.row_is (subst (λ (n : ℕ). HasRowFault s.bytes n inner) (just_is at t.at (sym at_is ∙ t.at_is)) g)
      by r is t read (no_region q k index q_is less index_is le) =
          let same : q ≡ r = just_is q r (sym q_is ∙ is) in
          let inside : k < r.count = subst (λ (x : Row). k < x.count) same less in
          let there = terms_there s at r r.count 0 k v read (omega arith) (omega arith) in
          term_clean s at r k index there.0 there.1 (ap (λ (x : Row). number x.indexes (k * 2) 2) (sym same) ∙ index_is) le
