-- A glyph is looked up in ranges that are in order.
use Rattle.std.proofs.Common.{◌≡◌, ℕ, zero, suc, ◌+◌, ◌-◌, ◌*◌, ◌<◌, ◌≤◌, Bool, true, false, List, Option, Some, None, refl, ap, arith, inl, inr, ◌∙◌, sym}
use Rattle.std.specs.Prelude.{◌&&◌, nat_le}
use Rattle.std.proofs.lemmas.Bool.{lt-ltb, le-ltb, le-leb, lt-leb, cases_lt, cases_eq}
use Rattle.std.proofs.lemmas.Option.{same_Some}
use Rattle.subsetter_base.specs.Bytes.{number}
use Rattle.subsetter_cffdata.proofs.Options.{step}
use Rattle.subsetter_cff2.specs.Selection.Select.{Range, range_by, range_at, has, in_ranges}
use Rattle.subsetter_cff2.specs.Selection.SelectSearch.{range_numbered, IsInOrder, IsThere, AreInOrder, AreThere}
use Rattle.subsetter_cff2.proofs.SelectionLaws.RangeSteps.{Misses, ranges_from, at_start, found, none_from, passed}

pub record InOrder (o : Option Range) : Type 0 where
  pub range : Range
  pub is : o ≡ Some range
  pub order : range.first ≤ range.next

pub there : (o : Option Range) → IsInOrder o → InOrder o
there None h = absurd h
there (Some r) h = record { range = r; is = refl; order = h }

in_place : (o : Option Range) → IsInOrder o → IsThere o
in_place None h = h
in_place (Some r) h = tt

-- ---- where one ends the next one begins
record Ends (k j : ℕ) (bytes : List ℕ) (at : ℕ) (r : Range) : Type 0 where
  first : number bytes at k ≡ Some r.first
  next : number bytes (at + (k + j)) k ≡ Some r.next

ends : (k j : ℕ) (bytes : List ℕ) (at : ℕ) (r : Range) → range_by k j bytes at ≡ Some r → Ends k j bytes at r
ends k j bytes at r h =
    let a = step (number bytes at k) _ r h in
    let b = step (number bytes (at + k) j) _ r a.1.1 in
    let d = step (number bytes (at + (k + j)) k) _ r b.1.1 in
    let same = same_Some _ r d.1.1 in
    record { first = a.1.0 ∙ ap (λ (x : Range). Some x.first) same; next = d.1.0 ∙ ap (λ (x : Range). Some x.next) same }

by_size : (k j : ℕ) (bytes : List ℕ) (at here : ℕ) (r s : Range) → here ≡ at + (k + j) → range_by k j bytes at ≡ Some r → range_by k j bytes here ≡ Some s → s.first ≡ r.next
by_size k j bytes at here r s e h g =
    let a = ends k j bytes at r h in
    let b = ends k j bytes here s g in
    same_Some s.first r.next (sym b.first ∙ ap (λ (n : ℕ). number bytes n k) e ∙ a.next)

chained : (bytes : List ℕ) (w : Bool) (at i : ℕ) (r s : Range) → range_numbered bytes w at i ≡ Some r → range_numbered bytes w at (i + 1) ≡ Some s → s.first ≡ r.next
unfolding range_at
chained bytes true at i r s h g = by_size 4 2 bytes (at + i * 6) (at + (i + 1) * 6) r s (omega arith) h g
chained bytes false at i r s h g = by_size 2 1 bytes (at + i * 3) (at + (i + 1) * 3) r s (omega arith) h g

module _ (bytes : List ℕ) (w : Bool) (at count glyph : ℕ) (order : AreInOrder bytes w at count) where
  abbrev f : ℕ → Option Range
  f i = range_numbered bytes w at i

  same_place : (i j : ℕ) (s : Range) → i ≡ j → f i ≡ Some s → f j ≡ Some s
  same_place i j s e h = ap f (sym e) ∙ h

  -- a range ends before a later one begins
  before : (d i : ℕ) (r s : Range) → i + 1 + d < count → f i ≡ Some r → f (i + 1 + d) ≡ Some s → r.next ≤ s.first
  before zero i r s less h g = omega (arith, chained bytes w at i r s h (same_place (i + 1 + 0) (i + 1) s (omega arith) g))
  before (suc d) i r s less h g =
      let q = there (f (i + 1 + d)) (order (i + 1 + d) (omega arith)) in
      omega (arith, before d i r q.range (omega arith) h q.is, q.order, chained bytes w at (i + 1 + d) q.range s q.is (same_place (i + 1 + suc d) (i + 1 + d + 1) s (omega arith) g))

  ordered : (i j : ℕ) (r s : Range) → i < j → j < count → f i ≡ Some r → f j ≡ Some s → r.next ≤ s.first
  ordered i j r s less within h g = before (j - i - 1) i r s (omega arith) h (same_place j (i + 1 + (j - i - 1)) s (omega arith) g)

  and_none : (b : Bool) → (b && false) ≡ false
  and_none true = refl
  and_none false = refl

  ends_before : (r : Range) → r.next ≤ glyph → has r glyph ≡ false
  ends_before r le = rw (le-ltb glyph r.next le) (and_none (nat_le r.first glyph))

  begins_after : (r : Range) → glyph < r.first → has r glyph ≡ false
  begins_after r lt = rw (lt-leb r.first glyph lt) refl

  same_range : (k m : ℕ) (r s : Range) → k ≡ m → f k ≡ Some s → f m ≡ Some r → s ≡ r
  same_range k m r s e h g = same_Some s r (sym h ∙ ap f e ∙ g)

  pub all_end : (middle : ℕ) (r : Range) → middle < count → f middle ≡ Some r → r.next ≤ glyph → (k : ℕ) → k ≤ middle → Misses bytes w at glyph k
  all_end middle r within is le k low s h =
      elim (cases_eq k middle) [
        | inl same ↦ ends_before s (omega (arith, ap (λ (x : Range). x.next) (same_range k middle r s same h is), le))
        | inr other ↦ (let q = there (f middle) (order middle within) in
            let e = same_range middle middle r q.range refl q.is is in
            ends_before s (omega (arith, ordered k middle s r (omega arith) within h is, q.order, ap (λ (x : Range). x.first) e, ap (λ (x : Range). x.next) e, le)))
      ]

  pub all_begin : (middle : ℕ) (r : Range) → f middle ≡ Some r → glyph < r.first → (k : ℕ) → middle ≤ k → k < count → Misses bytes w at glyph k
  all_begin middle r is lt k low within s h =
      elim (cases_eq k middle) [
        | inl same ↦ begins_after s (omega (arith, ap (λ (x : Range). x.first) (same_range k middle r s same h is), lt))
        | inr other ↦ (let q = there (f middle) (order middle (omega arith)) in
            let e = same_range middle middle r q.range refl q.is is in
            begins_after s (omega (arith, ordered middle k r s (omega arith) within is h, q.order, ap (λ (x : Range). x.first) e, ap (λ (x : Range). x.next) e, lt)))
      ]

  all_before : (middle : ℕ) (r : Range) → middle < count → f middle ≡ Some r → r.first ≤ glyph → (k : ℕ) → k < middle → Misses bytes w at glyph k
  all_before middle r within is le k low s h = ends_before s (omega (arith, ordered k middle s r low within h is, le))

  -- ---- from the front
  all : AreThere bytes w at count
  all i within = in_place (f i) (order i within)

  abbrev from : ℕ → ℕ → Option ℕ
  from n i = ranges_from bytes w at glyph n i

  found_from : (n i d : ℕ) (r : Range) → i + n ≤ count → d < n → ((k : ℕ) → i ≤ k → k < i + d → Misses bytes w at glyph k) → f (i + d) ≡ Some r → has r glyph ≡ true → from n i ≡ Some r.dict
  found_from zero i d r within less misses is here = absurd (omega arith)
  found_from (suc n) i zero r within less misses is here = found bytes w at glyph n i r (same_place (i + 0) i r (omega arith) is) here
  found_from (suc n) i (suc d) r within less misses is here =
      passed bytes w at count glyph all n i (omega arith) (misses i (omega arith) (omega arith))
      ∙ found_from n (i + 1) d r (omega arith) (omega arith) (λ k a b. misses k (omega arith) (omega arith)) (same_place (i + suc d) (i + 1 + d) r (omega arith) is) here

  pub nowhere : ((k : ℕ) → k < count → Misses bytes w at glyph k) → None ≡ in_ranges bytes w glyph count at
  nowhere misses = sym (none_from bytes w at count glyph all count 0 (omega arith) (λ k a b. misses k (omega arith))) ∙ at_start bytes w at glyph count

  pub in_the_middle : (middle : ℕ) (r : Range) → middle < count → f middle ≡ Some r → r.first ≤ glyph → glyph < r.next → Some r.dict ≡ in_ranges bytes w glyph count at
  in_the_middle middle r within is le lt =
      let here : has r glyph ≡ true = rw (le-leb r.first glyph le, lt-ltb glyph r.next lt) refl in
      sym (found_from count 0 middle r (omega arith) within (λ k a b. all_before middle r within is le k (omega arith)) (same_place middle (0 + middle) r (omega arith) is) here) ∙ at_start bytes w at glyph count

  pub nowhere_left : (low high : ℕ) → high ≤ low → ((k : ℕ) → k < low → Misses bytes w at glyph k) → ((k : ℕ) → high ≤ k → k < count → Misses bytes w at glyph k) → None ≡ in_ranges bytes w glyph count at
  nowhere_left low high le below above = nowhere (λ k within. elim (cases_lt k low) [
    | inl less ↦ below k less
    | inr other ↦ above k (omega arith) within
  ])
