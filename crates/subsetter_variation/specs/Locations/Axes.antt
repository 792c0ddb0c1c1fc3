-- The axes of a variable font (OpenType, "fvar"), and where a coordinate is on one. Coordinates are in 65536ths.
use Rattle.std.specs.Prelude.{ℕ, zero, suc, ◌+◌, List, [], ◌∷◌, take, find, Option, Some, None, nat_lt, int_lt, int_le}
use Rattle.std.specs.Prelude.{if◌then◌else◌, ℤ, pos, neg_ℤ, ◌-ℤ◌, unsigned_abs}
use Rattle.std.specs.Int.{int_max, int_min}
use Rattle.std.specs.Str.{bytes_eq}
use Rattle.subsetter_base.specs.Bytes.{range, number, long_signed_at}
use Rattle.subsetter_base.specs.declared.tag.Tag.{Tag}
use Rattle.subsetter_base.specs.Options.{◌>>=◌}
use Rattle.subsetter_variation.specs.Nearest.{mul_div_nearest}
use Rattle.subsetter_variation.specs.declared.locations.axes.Axis.{Axis}

-- the record of an axis begins with its tag, and its least, its default and its greatest coordinate
abbrev pub axis_of : List ℕ → Axis
axis_of bytes =
    record {
      tag = record { 0 = take 4 bytes };
      minimum = long_signed_at bytes 4;
      default = long_signed_at bytes 8;
      maximum = long_signed_at bytes 12;
    }

-- n records of `size` bytes each, one after the other
abbrev pub axes_at : ℕ → ℕ → List ℕ → ℕ → Option (List Axis)
axes_at zero size fvar at = Some []
axes_at (suc n) size fvar at = do
  bytes ← range fvar at size
  axes ← axes_at n size fvar (at + size)
  Some (axis_of bytes ∷ axes)

-- where the records begin, how many they are, and the size of one, which is 20 or more
unfoldable pub axes : List ℕ → Option (List Axis)
axes fvar = do
  at ← number fvar 4 2
  count ← number fvar 8 2
  size ← number fvar 10 2
  if nat_lt size 20 then None else axes_at count size fvar at

-- the first axis of a tag
abbrev pub find_axis : List ℕ → List Axis → Option Axis
find_axis tag axes = find (λ a. bytes_eq a.tag.0 tag) axes

-- the last setting of a tag, else what there was
abbrev pub user_coordinate_from : ℤ → List ℕ → List (Tag × ℤ) → ℤ
user_coordinate_from value tag [] = value
user_coordinate_from value tag (s ∷ settings) =
    user_coordinate_from (if bytes_eq s.0.0 tag then s.1 else value) tag settings

-- the coordinate on an axis: the last setting of its tag, else its default
abbrev pub user_coordinate : Axis → List (Tag × ℤ) → ℤ
user_coordinate a settings = user_coordinate_from a.default a.tag.0 settings

-- no greater than one number, and no less than another
unfoldable pub within : ℤ → ℤ → ℤ → ℤ
within greatest least c = int_max (int_min c greatest) least

-- the same, clamped to the axis, which has nothing on a side where its end isn't past its default
abbrev pub clamped : Axis → List (Tag × ℤ) → ℤ
clamped a settings = within (int_max a.maximum a.default) (int_min a.minimum a.default) (user_coordinate a settings)

-- how far a coordinate is from the default, in 65536ths of the way from it to an end
unfoldable pub toward : ℤ → ℤ → ℤ → ℤ
toward end default c = mul_div_nearest (c -ℤ default) (unsigned_abs (end -ℤ default)) (pos 65536)

-- a coordinate below the default, and one above it: no further than the end of the axis, which is the default itself
-- where there is nothing on that side
abbrev pub below_default : Axis → ℤ → ℤ
below_default a c =
    if int_le a.default a.minimum then pos 0
    else if int_le c a.minimum then neg_ℤ (pos 65536)
    else toward a.minimum a.default c

abbrev pub above_default : Axis → ℤ → ℤ
above_default a c =
    if int_le a.maximum a.default then pos 0 else if int_le a.maximum c then pos 65536 else toward a.maximum a.default c

-- the place of a user coordinate (OpenType, "Coordinate Scales and Normalization"): 0 at the default, -65536 at the
-- least coordinate and 65536 at the greatest one
unfoldable pub default_normalized : Axis → ℤ → ℤ
default_normalized a c =
    if int_lt c a.default then below_default a c else if int_lt a.default c then above_default a c else pos 0
