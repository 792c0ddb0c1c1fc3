-- A glyph is looked up block by block.
use Rattle.std.proofs.Common.{◌≡◌, ◌≢◌, ℕ, ◌+◌, ◌-◌, ◌*◌, ◌<◌, ◌≤◌, min, Bool, true, false, List, length, get_or, set, Option, Some, None, is_some, refl, arith, subst, ◌∙◌, sym, get_or-set_other, get_or-set_same, below_more}
use Rattle.std.specs.Prelude.{◌&&◌, nat_le, IfSome}
use Rattle.std.proofs.lemmas.Bool.{le-ltb, lt-leb}
use Rattle.subsetter_cff2.specs.Selection.Select.{Range, has}
use Rattle.subsetter_cff2.specs.Selection.SelectSearch.{range_numbered, AreThere, IsWithin, AreWithin}
use Rattle.subsetter_cff2.proofs.SelectionLaws.RangeSteps.{ranges_from, following, none_from, same_from}

-- ---- bounds
wider : (o : Option Range) (l g m h : ℕ) → m ≤ l → g ≤ h → IfSome o (IsWithin l g) → IfSome o (IsWithin m h)
wider None l g m h a b k = tt
wider (Some r) l g m h a b k = (omega (arith, a, k.0), omega (arith, b, k.1))

-- of one range more
pub within_more : (bytes : List ℕ) (w : Bool) (at from i l g m h : ℕ) → AreWithin bytes w at from i l g → m ≤ l → g ≤ h → IfSome (range_numbered bytes w at i) (IsWithin m h) → AreWithin bytes w at from (i + 1) m h
within_more bytes w at from i l g m h all a b here k up less =
    below_more (λ j. from ≤ j → IfSome (range_numbered bytes w at j) (IsWithin m h)) i (λ j lt le. wider (range_numbered bytes w at j) l g m h a b (all j le lt)) (λ _. here) k less up

-- a block's
abbrev pub OfBlock : List ℕ → Bool → ℕ → ℕ → ℕ → ℕ → List ℕ → List ℕ → Type 0
OfBlock bytes w at count size block least greatest = AreWithin bytes w at (min (block * size) count) (min (block * size + size) count) (get_or least block 0) (get_or greatest block 0)

same_bounds : (bytes : List ℕ) (w : Bool) (at from to l g m h : ℕ) → l ≡ m → g ≡ h → AreWithin bytes w at from to l g → AreWithin bytes w at from to m h
same_bounds bytes w at from to l g m h p q k = subst (λ (x : ℕ). AreWithin bytes w at from to x h) p (subst (λ (y : ℕ). AreWithin bytes w at from to l y) q k)

module _ (bytes : List ℕ) (w : Bool) (at count size : ℕ) where
  pub blocks_more : (block from to l g : ℕ) (least greatest : List ℕ) → block < length least → block < length greatest → from ≡ min (block * size) count → to ≡ min (from + size) count → AreWithin bytes w at from to l g
      → ((b : ℕ) → b < block → OfBlock bytes w at count size b least greatest) → (b : ℕ) → b < block + 1 → OfBlock bytes w at count size b (set least block l) (set greatest block g)
  blocks_more block from to l g least greatest lows highs is_from is_to here before =
      below_more (λ b. OfBlock bytes w at count size b (set least block l) (set greatest block g)) block
      (λ b lt.
      let ne : b ≢ block = omega arith in
      same_bounds bytes w at (min (b * size) count) (min (b * size + size) count) (get_or least b 0) (get_or greatest b 0) (get_or (set least block l) b 0) (get_or (set greatest block g) b 0) (sym (get_or-set_other least block b l 0 ne)) (sym (get_or-set_other greatest block b g 0 ne)) (before b lt))
      (same_bounds bytes w at (min (block * size) count) (min (block * size + size) count) l g (get_or (set least block l) block 0) (get_or (set greatest block g) block 0) (sym (get_or-set_same least block l 0 lows)) (sym (get_or-set_same greatest block g 0 highs))
      (λ i up less. here i (omega arith) (omega arith)))

-- ---- a block without the glyph
and_none : (b : Bool) → (b && false) ≡ false
and_none true = refl
and_none false = refl

begins_after : (glyph l g : ℕ) (r : Range) → IsWithin l g r → glyph < l → has r glyph ≡ false
begins_after glyph l g r k lt = let far : glyph < r.first = omega (arith, k.0) in rw (lt-leb r.first glyph far) refl

ends_before : (glyph l g : ℕ) (r : Range) → IsWithin l g r → g ≤ glyph → has r glyph ≡ false
ends_before glyph l g r k le = let near : r.next ≤ glyph = omega (arith, k.1) in rw (le-ltb glyph r.next near) (and_none (nat_le r.first glyph))

module _ (bytes : List ℕ) (w : Bool) (at from to glyph l g : ℕ) (order : from ≤ to) (all : AreThere bytes w at to) (within : AreWithin bytes w at from to l g) where
  is_within : (k : ℕ) → from ≤ k → k < to → (r : Range) → range_numbered bytes w at k ≡ Some r → IsWithin l g r
  is_within k up less r is = subst (λ (o : Option Range). IfSome o (IsWithin l g)) is (within k up less)

  pub all_after : glyph < l → None ≡ ranges_from bytes w at glyph (to - from) from
  all_after lt = sym (none_from bytes w at to glyph all (to - from) from (omega arith) (λ k up less r is. begins_after glyph l g r (is_within k up (omega arith) r is) lt))

  pub all_before : g ≤ glyph → None ≡ ranges_from bytes w at glyph (to - from) from
  all_before le = sym (none_from bytes w at to glyph all (to - from) from (omega arith) (λ k up less r is. ends_before glyph l g r (is_within k up (omega arith) r is) le))

-- ---- the step from block to block
module _ (bytes : List ℕ) (w : Bool) (at count glyph : ℕ) (all : AreThere bytes w at count) where
  -- what is found in a block is found
  pub found_in_block : (i j : ℕ) (found answer : Option ℕ) → i ≤ j → j ≤ count → is_some found ≡ true → found ≡ ranges_from bytes w at glyph (j - i) i → ranges_from bytes w at glyph (count - i) i ≡ answer → found ≡ answer
  found_in_block i j None answer le within some is total = absurd cc
  found_in_block i j (Some x) answer le within some is total = sym (following bytes w at count glyph all i j le within (Some x) is) ∙ total

  pub next_block : (i j : ℕ) (found answer : Option ℕ) → i ≤ j → j ≤ count → is_some found ≡ false → found ≡ ranges_from bytes w at glyph (j - i) i → ranges_from bytes w at glyph (count - i) i ≡ answer → ranges_from bytes w at glyph (count - j) j ≡ answer
  next_block i j (Some x) answer le within none is total = absurd cc
  next_block i j None answer le within none is total = sym (following bytes w at count glyph all i j le within None is) ∙ total

  pub all_passed : (i : ℕ) (answer : Option ℕ) → count ≤ i → ranges_from bytes w at glyph (count - i) i ≡ answer → None ≡ answer
  all_passed i answer past total = same_from bytes w at glyph 0 (count - i) i i (omega arith) refl ∙ total
