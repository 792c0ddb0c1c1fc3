-- How far a part of the design space counts at a location (OpenType, "OpenType Font Variations Overview").
use Rattle.std.specs.Prelude.{Bool, ◌||◌, ◌&&◌, List, [], ◌∷◌, int_lt, int_le, if◌then◌else◌, ℤ, pos, ◌-ℤ◌}
use Rattle.std.specs.Prelude.{unsigned_abs}
use Rattle.std.specs.Ordering.{int_eq}
use Rattle.subsetter_variation.specs.Nearest.{mul_div_nearest}
use Rattle.subsetter_variation.specs.declared.region.RegionAxis.{RegionAxis}

-- the scalar of what counts in full
abbrev pub unit : ℤ
unit = pos 1073741824

-- the axis is passed over: its peak is the default, its ends don't surround the peak, or they are on both sides of the
-- default
abbrev pub is_ignored : RegionAxis → Bool
is_ignored t =
    int_eq t.peak (pos 0) || int_lt t.peak t.start || int_lt t.end t.peak
    || (int_lt t.start (pos 0) && int_lt (pos 0) t.end)

-- of a whole as great a part as a place has passed of the way from an end to the peak
unfoldable pub proportion : ℤ → ℤ → ℤ → ℤ → ℤ
proportion end peak at whole = mul_div_nearest (pos (unsigned_abs (at -ℤ end))) (unsigned_abs (peak -ℤ end)) whole

-- what of a whole counts at a location on the axis: all at the peak, nothing at the ends and beyond, and between them
-- in proportion
unfoldable pub times_axis_scalar : RegionAxis → ℤ → ℤ → ℤ
times_axis_scalar t at whole =
    if is_ignored t then whole
    else if int_lt at t.peak then (if int_le at t.start then pos 0 else proportion t.start t.peak at whole)
    else if int_lt t.peak at then (if int_le t.end at then pos 0 else proportion t.end t.peak at whole)
    else whole

-- one axis after the other
abbrev pub scalar_of : ℤ → List RegionAxis → List ℤ → ℤ
scalar_of whole [] at = whole
scalar_of whole (t ∷ region) [] = whole
scalar_of whole (t ∷ region) (c ∷ at) = scalar_of (times_axis_scalar t c whole) region at

-- the scalar of a region, in parts of 2^30
abbrev pub scalar : List RegionAxis → List ℤ → ℤ
scalar region at = scalar_of unit region at
