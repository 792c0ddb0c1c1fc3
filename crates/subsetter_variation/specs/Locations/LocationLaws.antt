-- Laws of where a user coordinate is on its axis.
use Rattle.std.specs.Prelude.{◌≡◌, ℤ, pos, neg_ℤ, ◌≤ℤ◌, int_lt, true, List}
use Rattle.subsetter_base.specs.declared.tag.Tag.{Tag}
use Rattle.subsetter_variation.specs.Locations.Axes.{default_normalized, user_coordinate}
use Rattle.subsetter_variation.specs.Locations.Coordinates.{coordinate}
use Rattle.subsetter_variation.specs.Locations.Segments.{counting, f2dot14_to_fixed, keeps, mapped}
use Rattle.subsetter_variation.specs.declared.locations.axes.Axis.{Axis}
use Rattle.subsetter_variation.specs.declared.locations.segments.AxisValueMap.{AxisValueMap}

-- a segment map takes each number to itself that its ends keep, of those that count: -1, 0 and 1 among them
abbrev pub IsMappedToItself : Type 0
IsMappedToItself =
    (ends : List AxisValueMap) (z : ℤ) → keeps z (counting ends) ≡ true
    → mapped ends (f2dot14_to_fixed z) ≡ f2dot14_to_fixed z

-- the default of an axis is at 0, whatever the segments
abbrev pub IsDefaultAtZero : Type 0
IsDefaultAtZero =
    (a : Axis) (ends : List AxisValueMap) (settings : List (Tag × ℤ)) → user_coordinate a settings ≡ a.default
    → coordinate a ends settings ≡ pos 0

-- the least coordinate is at -1, where it is below the default
abbrev pub IsLeastAtMinusOne : Type 0
IsLeastAtMinusOne =
    (a : Axis) (ends : List AxisValueMap) (settings : List (Tag × ℤ)) → int_lt a.minimum a.default ≡ true
    → user_coordinate a settings ≡ a.minimum
    → coordinate a ends settings ≡ neg_ℤ (pos 16384)

-- the greatest coordinate is at 1, where it is above the default
abbrev pub IsGreatestAtOne : Type 0
IsGreatestAtOne =
    (a : Axis) (ends : List AxisValueMap) (settings : List (Tag × ℤ)) → int_lt a.default a.maximum ≡ true
    → user_coordinate a settings ≡ a.maximum
    → coordinate a ends settings ≡ pos 16384

-- before the segments a greater coordinate is no lower
abbrev pub NeverDescends : Type 0
NeverDescends = (a : Axis) (c d : ℤ) → c ≤ℤ d → default_normalized a c ≤ℤ default_normalized a d

-- nor does it through the segments, whatever they are
abbrev pub NeverDescendsBent : Type 0
NeverDescendsBent =
    (a : Axis) (ends : List AxisValueMap) (settings more : List (Tag × ℤ))
    → user_coordinate a settings ≤ℤ user_coordinate a more
    → coordinate a ends settings ≤ℤ coordinate a ends more
