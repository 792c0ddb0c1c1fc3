-- An FDSelect whose ranges are in order, so that a glyph is looked up by halves, or are in blocks, of which those
-- without the glyph are passed.
use Rattle.std.specs.Prelude.{◌≡◌, ℕ, ◌+◌, ◌*◌, ◌<◌, ◌≤◌, min, Bool, List, slice_index, Option, Some, None, IfSome}
use Rattle.subsetter_cff2.specs.Selection.Select.{Range, range_at, width_of, in_ranges, selected}

-- the bytes of a table, and where FDSelect is in them
pub record SelectSource : Type 0 where
  pub bytes : List ℕ
  pub select : Option ℕ

-- the range numbered i of those from a place on
abbrev pub range_numbered : List ℕ → Bool → ℕ → ℕ → Option Range
range_numbered bytes is_wide at i = range_at bytes is_wide (at + i * width_of is_wide)

abbrev pub IsThere : Option Range → Type 0
IsThere None = ⊥
IsThere (Some r) = Unit {0}

abbrev pub AreThere : List ℕ → Bool → ℕ → ℕ → Type 0
AreThere bytes is_wide at count = (i : ℕ) → i < count → IsThere (range_numbered bytes is_wide at i)

-- it is there, and doesn't end before it begins
abbrev pub IsInOrder : Option Range → Type 0
IsInOrder None = ⊥
IsInOrder (Some r) = r.first ≤ r.next

abbrev pub AreInOrder : List ℕ → Bool → ℕ → ℕ → Type 0
AreInOrder bytes is_wide at count = (i : ℕ) → i < count → IsInOrder (range_numbered bytes is_wide at i)

-- it doesn't begin before the least glyph, nor end after the greatest
abbrev pub IsWithin : ℕ → ℕ → Range → Type 0
IsWithin least greatest r = (least ≤ r.first) × (r.next ≤ greatest)

-- the ranges from one on, as far as another
abbrev pub AreWithin : List ℕ → Bool → ℕ → ℕ → ℕ → ℕ → ℕ → Type 0
AreWithin bytes is_wide at from to least greatest =
    (i : ℕ) → from ≤ i → i < to → IfSome (range_numbered bytes is_wide at i) (IsWithin least greatest)

-- those of each of 256 blocks of `size` ranges
abbrev pub AreBounds : List ℕ → Bool → ℕ → ℕ → ℕ → List ℕ → List ℕ → Type 0
AreBounds bytes is_wide at count size least greatest =
    (block : ℕ) → block < 256
    → AreWithin bytes is_wide at (min (block * size) count)
    (min (block * size + size) count) (slice_index least block) (slice_index greatest block)

-- a glyph's font dict is looked up in `count` ranges from a place on
abbrev pub IsByRanges : List ℕ → Option ℕ → Bool → ℕ → ℕ → Type 0
IsByRanges bytes select is_wide at count =
    (glyph : ℕ) → selected bytes select glyph ≡ in_ranges bytes is_wide glyph count at
