-- Looking a glyph up in the ranges of FDSelect block by block.
use Rattle.std.proofs.Common.{◌≡◌, ℕ, zero, suc, ◌+◌, ◌-◌, ◌*◌, ◌/◌, ◌<◌, ◌≤◌, min, Bool, true, false, cond, List, slice_index, Option, Some, None, is_some, refl, ap, arith, ◌∙◌, sym}
use Rattle.subsetter_cff.specs.Read.FdArray.Ranges.{number_of_range, has_glyph, found_from, AreBounds}
use Rattle.subsetter_cff.proofs.ReadLaws.FdArrayLaws.RangeLookups.{ends_before, begins_after, in_none}

-- ---- ranges, and those after them
abbrev pub else_next : Option ℕ → Option ℕ → Option ℕ
else_next (Some x) next = Some x
else_next None next = next

by_test : (b : Bool) (x : ℕ) (all front next : Option ℕ) → all ≡ else_next front next → cond b (Some x) all ≡ else_next (cond b (Some x) front) next
by_test true x all front next e = refl
by_test false x all front next e = e

at : (bytes : List ℕ) (glyph n m i j : ℕ) → n ≡ m → i ≡ j → found_from bytes glyph n i ≡ found_from bytes glyph m j
at bytes glyph n m i j p q = cc

split : (bytes : List ℕ) (glyph j n i : ℕ) → j ≤ n
    → found_from bytes glyph n i ≡ else_next (found_from bytes glyph j i) (found_from bytes glyph (n - j) (i + j))
split bytes glyph zero n i le = at bytes glyph n (n - 0) i (i + 0) (omega arith) (omega arith)
split bytes glyph (suc j) zero i le = absurd (omega arith)
split bytes glyph (suc j) (suc n) i le =
    by_test (has_glyph bytes glyph i) (number_of_range bytes i) _ _ _
    (split bytes glyph j n (i + 1) (omega arith)
    ∙ ap (else_next (found_from bytes glyph j (i + 1))) (at bytes glyph (n - j) (suc n - suc j) (i + 1 + j) (i + suc j) (omega arith) (omega arith)))

-- ---- a block without the glyph
pub begins_all_after : (bytes : List ℕ) (count glyph block : ℕ) (least greatest : List ℕ) → AreBounds bytes count least greatest → glyph < slice_index least block
    → None ≡ found_from bytes glyph (min (256 * block + 256) count - 256 * block) (256 * block)
begins_all_after bytes count glyph block least greatest bounds lt =
    sym (in_none bytes glyph (min (256 * block + 256) count - 256 * block) (256 * block) (λ k from to.
    let low = (bounds k (omega arith)).0 in
    let same : slice_index least (k / 256) ≡ slice_index least block = ap (slice_index least) (let e : k / 256 ≡ block = omega arith in e) in
    begins_after bytes glyph k (omega (arith, low, same, lt))))

pub ends_all_before : (bytes : List ℕ) (count glyph block : ℕ) (least greatest : List ℕ) → AreBounds bytes count least greatest → slice_index greatest block ≤ glyph
    → None ≡ found_from bytes glyph (min (256 * block + 256) count - 256 * block) (256 * block)
ends_all_before bytes count glyph block least greatest bounds le =
    sym (in_none bytes glyph (min (256 * block + 256) count - 256 * block) (256 * block) (λ k from to.
    let high = (bounds k (omega arith)).1 in
    let same : slice_index greatest (k / 256) ≡ slice_index greatest block = ap (slice_index greatest) (let e : k / 256 ≡ block = omega arith in e) in
    ends_before bytes glyph k (omega (arith, high, same, le))))

-- ---- the step from block to block
same_rest : (bytes : List ℕ) (glyph n i m j : ℕ) → n ≡ m → (0 < m → i ≡ j) → found_from bytes glyph m j ≡ found_from bytes glyph n i
same_rest bytes glyph n i zero j e h = ap (λ (a : ℕ). found_from bytes glyph a i) (sym e)
same_rest bytes glyph n i (suc m) j e h = at bytes glyph (suc m) n j i (sym e) (sym (h (omega arith)))

-- what is found in a block is found
pub found_in_block : (bytes : List ℕ) (glyph count block : ℕ) (found answer : Option ℕ) → 256 * block < count → is_some found ≡ true
    → found ≡ found_from bytes glyph (min (256 * block + 256) count - 256 * block) (256 * block)
    → found_from bytes glyph (count - 256 * block) (256 * block) ≡ answer → found ≡ answer
found_in_block bytes glyph count block None answer there some is all = absurd cc
found_in_block bytes glyph count block (Some x) answer there some is all =
    let j = min (256 * block + 256) count - 256 * block in
    sym (split bytes glyph j (count - 256 * block) (256 * block) (omega arith)
    ∙ ap (λ (o : Option ℕ). else_next o (found_from bytes glyph (count - 256 * block - j) (256 * block + j))) (sym is)) ∙ all

pub next_block : (bytes : List ℕ) (glyph count block : ℕ) (found answer : Option ℕ) → 256 * block < count → is_some found ≡ false
    → found ≡ found_from bytes glyph (min (256 * block + 256) count - 256 * block) (256 * block)
    → found_from bytes glyph (count - 256 * block) (256 * block) ≡ answer → found_from bytes glyph (count - 256 * (block + 1)) (256 * (block + 1)) ≡ answer
next_block bytes glyph count block (Some x) answer there none is all = absurd cc
next_block bytes glyph count block None answer there none is all =
    let j = min (256 * block + 256) count - 256 * block in
    same_rest bytes glyph (count - 256 * block - j) (256 * block + j) (count - 256 * (block + 1)) (256 * (block + 1)) (omega arith) (λ some. omega arith)
    ∙ sym (split bytes glyph j (count - 256 * block) (256 * block) (omega arith)
    ∙ ap (λ (o : Option ℕ). else_next o (found_from bytes glyph (count - 256 * block - j) (256 * block + j))) (sym is)) ∙ all
