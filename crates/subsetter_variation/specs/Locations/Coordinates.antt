-- The coordinates of an instance on the axes of its font, each from -1 to 1, in 16384ths (OpenType, "Coordinate Scales
-- and Normalization").
use Rattle.std.specs.Prelude.{ℕ, ◌+◌, ◌*◌, not, ◌||◌, Bool, false, List, [], ◌∷◌, length, map, Option, Some, None}
use Rattle.std.specs.Prelude.{Result, Err, ◌==◌, if◌then◌else◌, ℤ}
use Rattle.std.specs.Option.{ok_or}
use Rattle.subsetter_base.specs.Bytes.{number}
use Rattle.subsetter_base.specs.declared.tag.Tag.{Tag}
use Rattle.subsetter_base.specs.declared.error.Error.{Error}
use Rattle.subsetter_base.specs.declared.error.Error.TheVariants.{MalformedFont, Unimplemented}
use Rattle.subsetter_base.specs.Options.{◌>>=◌}
use Rattle.subsetter_variation.specs.Nearest.{nearest}
use Rattle.subsetter_variation.specs.Locations.Axes.{axes, default_normalized, user_coordinate}
use Rattle.subsetter_variation.specs.Locations.Segments.{segment_map_at, axis_value_maps, mapped}
use Rattle.subsetter_variation.specs.declared.locations.axes.Axis.{Axis}
use Rattle.subsetter_variation.specs.declared.locations.segments.AxisValueMap.{AxisValueMap}

-- the normalized coordinate on one axis, mapped by its segment map of avar, in 16384ths
unfoldable pub coordinate : Axis → List AxisValueMap → List (Tag × ℤ) → ℤ
coordinate a ends settings = nearest (mapped ends (default_normalized a (user_coordinate a settings))) 4

-- on each axis, whose segments are after those of the axis before
abbrev pub coordinates_at : List Axis → List (Tag × ℤ) → List ℕ → ℕ → Option (List ℤ)
coordinates_at [] settings avar at = Some []
coordinates_at (a ∷ axes) settings avar at = do
  segments ← segment_map_at avar at
  rest ← coordinates_at axes settings avar (at + 2 + segments.count * 4)
  Some (coordinate a (axis_value_maps segments) settings ∷ rest)

-- `avar` has the segments of as many axes
unfoldable pub mapped_coordinates : List Axis → List (Tag × ℤ) → List ℕ → Option (List ℤ)
mapped_coordinates axes settings avar = do
  count ← number avar 6 2
  if count == length axes then coordinates_at axes settings avar 8 else None

-- without `avar` no axis is mapped
abbrev pub unmapped_coordinates : List (Tag × ℤ) → List Axis → List ℤ
unmapped_coordinates settings axes = map (λ a. coordinate a [] settings) axes

abbrev pub coordinates_by : Option (List ℕ) → List (Tag × ℤ) → List Axis → Option (List ℤ)
coordinates_by None settings axes = Some (unmapped_coordinates settings axes)
coordinates_by (Some avar) settings axes = mapped_coordinates axes settings avar

unfoldable pub normalized : List ℕ → Option (List ℕ) → List (Tag × ℤ) → Option (List ℤ)
normalized fvar avar settings = axes fvar >>= coordinates_by avar settings

-- a table of another major version than 1 is not read (OpenType, "fvar", "avar", "gvar" and "HVAR")
abbrev pub is_other : Option ℕ → Bool
is_other None = false
is_other (Some version) = not (version == 1)

abbrev pub is_other_version : Option (List ℕ) → Bool
is_other_version None = false
is_other_version (Some table) = is_other (number table 0 2)

-- the coordinates, or the name of what is wrong
unfoldable pub normalized_or_fault : List ℕ → Option (List ℕ) → List (Tag × ℤ) → Result (List ℤ) Error
normalized_or_fault fvar avar settings =
    if is_other_version (Some fvar) || is_other_version avar then Err Unimplemented
    else ok_or (normalized fvar avar settings) MalformedFont
