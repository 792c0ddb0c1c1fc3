-- Ranges that are there, from one on.
use Rattle.std.proofs.Common.{◌≡◌, ℕ, zero, suc, ◌+◌, ◌-◌, ◌*◌, ◌<◌, ◌≤◌, Bool, true, false, cond, List, Option, Some, None, refl, ap, arith, ◌∙◌, sym}
use Rattle.subsetter_cff2.specs.Selection.Select.{Range, width_of, has, in_ranges}
use Rattle.subsetter_cff2.specs.Selection.SelectSearch.{range_numbered, IsThere, AreThere}

pub record There (o : Option Range) : Type 0 where
  pub range : Range
  pub is : o ≡ Some range

pub there : (o : Option Range) → IsThere o → There o
there None h = absurd h
there (Some r) h = record { range = r; is = refl }

-- a range doesn't have the glyph
abbrev pub Misses : List ℕ → Bool → ℕ → ℕ → ℕ → Type 0
Misses bytes w at glyph k = (r : Range) → range_numbered bytes w at k ≡ Some r → has r glyph ≡ false

-- of n ranges from the one numbered i on, the font dict of the first that has the glyph
abbrev pub ranges_from : List ℕ → Bool → ℕ → ℕ → ℕ → ℕ → Option ℕ
ranges_from bytes w at glyph n i = in_ranges bytes w glyph n (at + i * width_of w)

pub at_start : (bytes : List ℕ) (w : Bool) (at glyph n : ℕ) → ranges_from bytes w at glyph n 0 ≡ in_ranges bytes w glyph n at
at_start bytes w at glyph n = ap (λ (p : ℕ). in_ranges bytes w glyph n p) (let e : at + 0 * width_of w ≡ at = omega arith in e)

module _ (bytes : List ℕ) (w : Bool) (at glyph : ℕ) where
  abbrev from : ℕ → ℕ → Option ℕ
  from n i = ranges_from bytes w at glyph n i

  pub same_from : (n m i j : ℕ) → n ≡ m → i ≡ j → from n i ≡ from m j
  same_from n m i j p q = ap (λ (a : ℕ). from a i) p ∙ ap (from m) q

  pub one_step : (n i : ℕ) (r : Range) → range_numbered bytes w at i ≡ Some r → from (suc n) i ≡ cond (has r glyph) (Some r.dict) (from n (i + 1))
  one_step n i r is =
      let further : at + i * width_of w + width_of w ≡ at + (i + 1) * width_of w = omega arith in
      rw is (ap (λ (p : ℕ). cond (has r glyph) (Some r.dict) (in_ranges bytes w glyph n p)) further)

  pub cut_step : (n i : ℕ) → range_numbered bytes w at i ≡ None → from (suc n) i ≡ None
  cut_step n i is = rw is refl

  pub missed : (n i : ℕ) (r : Range) → range_numbered bytes w at i ≡ Some r → has r glyph ≡ false → from (suc n) i ≡ from n (i + 1)
  missed n i r is misses = one_step n i r is ∙ ap (λ (b : Bool). cond b (Some r.dict) (from n (i + 1))) misses

  pub found : (n i : ℕ) (r : Range) → range_numbered bytes w at i ≡ Some r → has r glyph ≡ true → from (suc n) i ≡ Some r.dict
  found n i r is here = one_step n i r is ∙ ap (λ (b : Bool). cond b (Some r.dict) (from n (i + 1))) here

  -- ---- ranges after the last one that is there say nothing
  cut_from : (n m i : ℕ) → m ≤ n → ((k : ℕ) → i ≤ k → k < i + m → IsThere (range_numbered bytes w at k)) → (m < n → range_numbered bytes w at (i + m) ≡ None) → from n i ≡ from m i
  cut_from zero m i le all end = same_from 0 m i i (omega arith) refl
  cut_from (suc n) zero i le all end = cut_step n i (ap (range_numbered bytes w at) (let e : i ≡ i + 0 = omega arith in e) ∙ end (omega arith))
  cut_from (suc n) (suc m) i le all end =
      let q = there (range_numbered bytes w at i) (all i (omega arith) (omega arith)) in
      let rest = cut_from n m (i + 1) (omega arith) (λ k a b. all k (omega arith) (omega arith)) (λ less. ap (range_numbered bytes w at) (let e : i + 1 + m ≡ i + suc m = omega arith in e) ∙ end (omega arith)) in
      one_step n i q.range q.is ∙ ap (cond (has q.range glyph) (Some q.range.dict)) rest ∙ sym (one_step m i q.range q.is)

  pub cut_list : (n m : ℕ) → m ≤ n → AreThere bytes w at m → (m < n → range_numbered bytes w at m ≡ None) → in_ranges bytes w glyph n at ≡ in_ranges bytes w glyph m at
  cut_list n m le all end =
      sym (at_start bytes w at glyph n)
      ∙ cut_from n m 0 le (λ k a b. all k (omega arith)) (λ less. ap (range_numbered bytes w at) (let e : 0 + m ≡ m = omega arith in e) ∙ end less)
      ∙ at_start bytes w at glyph m

-- ---- ranges, and those after them
abbrev pub else_next : Option ℕ → Option ℕ → Option ℕ
else_next (Some x) next = Some x
else_next None next = next

by_test : (b : Bool) (x : ℕ) (rest front next : Option ℕ) → rest ≡ else_next front next → cond b (Some x) rest ≡ else_next (cond b (Some x) front) next
by_test true x rest front next e = refl
by_test false x rest front next e = e

module _ (bytes : List ℕ) (w : Bool) (at count glyph : ℕ) (all : AreThere bytes w at count) where
  abbrev go : ℕ → ℕ → Option ℕ
  go n i = ranges_from bytes w at glyph n i

  pub passed : (n i : ℕ) → i < count → Misses bytes w at glyph i → go (suc n) i ≡ go n (i + 1)
  passed n i within misses =
      let q = there (range_numbered bytes w at i) (all i within) in
      missed bytes w at glyph n i q.range q.is (misses q.range q.is)

  pub none_from : (n i : ℕ) → i + n ≤ count → ((k : ℕ) → i ≤ k → k < i + n → Misses bytes w at glyph k) → go n i ≡ None
  none_from zero i within misses = refl
  none_from (suc n) i within misses = passed n i (omega arith) (misses i (omega arith) (omega arith)) ∙ none_from n (i + 1) (omega arith) (λ k a b. misses k (omega arith) (omega arith))

  split : (j n i : ℕ) → j ≤ n → i + n ≤ count → go n i ≡ else_next (go j i) (go (n - j) (i + j))
  split zero n i le within = same_from bytes w at glyph n (n - 0) i (i + 0) (omega arith) (omega arith)
  split (suc j) zero i le within = absurd (omega arith)
  split (suc j) (suc n) i le within =
      let q = there (range_numbered bytes w at i) (all i (omega arith)) in
      let next = go (suc n - suc j) (i + suc j) in
      let rest = split j n (i + 1) (omega arith) (omega arith) ∙ ap (else_next (go j (i + 1))) (same_from bytes w at glyph (n - j) (suc n - suc j) (i + 1 + j) (i + suc j) (omega arith) (omega arith)) in
      one_step bytes w at glyph n i q.range q.is
      ∙ by_test (has q.range glyph) q.range.dict (go n (i + 1)) (go j (i + 1)) next rest
      ∙ ap (λ (o : Option ℕ). else_next o next) (sym (one_step bytes w at glyph j i q.range q.is))

  pub following : (i j : ℕ) → i ≤ j → j ≤ count → (found : Option ℕ) → found ≡ go (j - i) i → go (count - i) i ≡ else_next found (go (count - j) j)
  following i j le within found is =
      split (j - i) (count - i) i (omega arith) (omega arith)
      ∙ ap (λ (o : Option ℕ). else_next o (go (count - i - (j - i)) (i + (j - i)))) (sym is)
      ∙ ap (else_next found) (same_from bytes w at glyph (count - i - (j - i)) (count - j) (i + (j - i)) j (omega arith) (omega arith))
