-- The ranges of FDSelect, one after the other.
use Rattle.std.proofs.Common.{◌≡◌, ℕ, suc, ◌+◌, ◌-◌, ◌*◌, ◌<◌, Bool, true, false, List, Some, None, refl, arith}
use Rattle.subsetter_cff2.specs.Selection.Select.{Range, range_at, width_of, has, in_ranges}

abbrev one_less : ℕ → ℕ → Type 0
one_less n i = n - i ≡ suc (n - (i + 1))

pub ranges_next : (bytes : List ℕ) (w : Bool) (glyph n i at : ℕ) (r : Range) → i < n → range_at bytes w (at + i * width_of w) ≡ Some r → has r glyph ≡ false
    → in_ranges bytes w glyph (n - (i + 1)) (at + (i + 1) * width_of w) ≡ in_ranges bytes w glyph (n - i) (at + i * width_of w)
ranges_next bytes w glyph n i at r less h other =
    let one : one_less n i = omega arith in
    let further : at + (i + 1) * width_of w ≡ at + i * width_of w + width_of w = omega arith in
    rw (one, h, other, further) refl

pub ranges_here : (bytes : List ℕ) (w : Bool) (glyph n i at : ℕ) (r : Range) → i < n → range_at bytes w (at + i * width_of w) ≡ Some r → has r glyph ≡ true
    → in_ranges bytes w glyph (n - i) (at + i * width_of w) ≡ Some r.dict
ranges_here bytes w glyph n i at r less h here = let one : one_less n i = omega arith in rw (one, h, here) refl

pub ranges_cut : (bytes : List ℕ) (w : Bool) (glyph n i at : ℕ) → i < n → range_at bytes w (at + i * width_of w) ≡ None
    → in_ranges bytes w glyph (n - i) (at + i * width_of w) ≡ None
ranges_cut bytes w glyph n i at less h = let one : one_less n i = omega arith in rw (one, h) refl

pub ranges_end : (bytes : List ℕ) (w : Bool) (glyph n i place : ℕ) → n ≡ i → in_ranges bytes w glyph (n - i) place ≡ None
ranges_end bytes w glyph n i place same = let none : n - i ≡ 0 = omega arith in rw none refl
