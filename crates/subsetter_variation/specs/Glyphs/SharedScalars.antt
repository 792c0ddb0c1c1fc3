-- The scalars of the shared tuples of `gvar` at a location.
use Rattle.std.specs.Prelude.{◌≡◌, ℕ, ◌*◌, ◌<◌, ◌≤◌, ◌^◌, List, length, Some, ℤ, false, pos, slice_index_or}
use Rattle.std.specs.Prelude.{unsigned_abs}
use Rattle.subsetter_base.specs.Bytes.{range}
use Rattle.subsetter_variation.specs.Region.{scalar}
use Rattle.subsetter_variation.specs.Glyphs.Tuples.{Gvar, region_axes, tuple_size}

-- a number is the scalar of the shared tuple at an index, without ends of its own, if that can be read
pub record IsSharedScalar (t : Gvar) (at : List ℤ) (k : ℕ) (x : ℤ) : Type 0 where
  pub value : (peaks : List ℕ) → range t.shared (k * tuple_size t.axis_count) (tuple_size t.axis_count) ≡ Some peaks
      → x ≡ scalar (region_axes false t.axis_count peaks peaks peaks) at
  pub small : unsigned_abs x ≤ 2 ^ 30

-- the same of the first shared tuples
abbrev pub AreSharedScalars : Gvar → List ℤ → List ℤ → Type 0
AreSharedScalars t at scalars = (k : ℕ) → k < length scalars → IsSharedScalar t at k (slice_index_or scalars k (pos 0))
