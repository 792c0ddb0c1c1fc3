-- The segments that bend an axis (OpenType, "avar").
use Rattle.std.specs.Prelude.{ℕ, ◌+◌, ◌*◌, Bool, false, ◌&&◌, ◌||◌, List, [], ◌∷◌, take, drop, Option, Some, int_lt}
use Rattle.std.specs.Prelude.{int_le, if◌then◌else◌, ℤ, pos, neg_ℤ, ◌+ℤ◌, ◌-ℤ◌, ◌*ℤ◌, unsigned_abs}
use Rattle.std.specs.Int.{w16, cast_signed}
use Rattle.std.specs.Ordering.{int_eq}
use Rattle.subsetter_base.specs.Bytes.{be, range, number}
use Rattle.subsetter_base.specs.Items.{Items, values}
use Rattle.subsetter_base.specs.Options.{◌>>=◌}
use Rattle.subsetter_variation.specs.Nearest.{mul_div_nearest}
use Rattle.subsetter_variation.specs.declared.locations.segments.AxisValueMap.{AxisValueMap}

-- the end of a segment: two numbers in 16384ths
abbrev pub axis_value_map_of : List ℕ → AxisValueMap
axis_value_map_of bytes =
    record { from = cast_signed w16 (be (take 2 bytes)); to = cast_signed w16 (be (take 2 (drop 2 bytes))) }

-- the ends of the segments of an axis: a count, and four bytes for each
abbrev pub segment_map_at : List ℕ → ℕ → Option Items
segment_map_at avar at = do
  count ← number avar at 2
  bytes ← range avar (at + 2) (count * 4)
  Some (record { bytes = bytes; count = count })

abbrev pub axis_value_maps : Items → List AxisValueMap
axis_value_maps items = values 4 (λ bytes. Some (axis_value_map_of bytes)) items

-- an F2DOT14 as a Fixed: 16384ths as 65536ths
abbrev pub f2dot14_to_fixed : ℤ → ℤ
f2dot14_to_fixed z = pos 4 *ℤ z

-- of a whole as great a part as a number has passed of the way from one end to another
unfoldable pub interpolated : ℤ → ℤ → ℤ → ℤ → ℤ
interpolated from to n whole = mul_div_nearest (n -ℤ from) (unsigned_abs (to -ℤ from)) whole

-- a number that is between two ends, at the same part of the way between their new numbers
unfoldable pub on_segment : AxisValueMap → AxisValueMap → ℤ → ℤ
on_segment p q n =
    f2dot14_to_fixed p.to +ℤ interpolated (f2dot14_to_fixed p.from)
    (f2dot14_to_fixed q.from) n (f2dot14_to_fixed q.to -ℤ f2dot14_to_fixed p.to)

-- the number is between two ends, and not on the second
abbrev pub is_on : AxisValueMap → AxisValueMap → ℤ → Bool
is_on p q n = int_le (f2dot14_to_fixed p.from) n && int_lt n (f2dot14_to_fixed q.from)

-- by the first segment in which the number lies; one that is in none stays
abbrev pub mapped_from : AxisValueMap → List AxisValueMap → ℤ → ℤ
mapped_from p [] n = n
mapped_from p (q ∷ ends) n = if is_on p q n then on_segment p q n else mapped_from q ends n

abbrev pub by_segments : List AxisValueMap → ℤ → ℤ
by_segments [] n = n
by_segments (p ∷ ends) n = mapped_from p ends n

-- ---- which ends count

-- after others an end counts whose number is above those of all before it, and whose new number isn't less than that of
-- the last one that counts
abbrev pub counts : ℤ → AxisValueMap → AxisValueMap → Bool
counts top last q = int_lt top q.from && int_le last.to q.to

-- the greatest number so far
abbrev pub topmost : ℤ → AxisValueMap → ℤ
topmost top q = if int_lt top q.from then q.from else top

-- the ends that count after the last one that did
abbrev pub counting_from : ℤ → AxisValueMap → List AxisValueMap → List AxisValueMap
counting_from top last [] = []
counting_from top last (q ∷ ends) =
    if counts top last q then q ∷ counting_from (topmost top q) q ends else counting_from (topmost top q) last ends

-- the others are ignored
abbrev pub counting : List AxisValueMap → List AxisValueMap
counting [] = []
counting (p ∷ ends) = p ∷ counting_from p.from p ends

-- ---- what they have to keep

-- an end has a number as its new number
abbrev pub stays : ℤ → AxisValueMap → Bool
stays z p = int_eq p.from z && int_eq p.to z

abbrev pub keeps : ℤ → List AxisValueMap → Bool
keeps z [] = false
keeps z (p ∷ ends) = stays z p || keeps z ends

-- -1, 0 and 1
abbrev pub is_segment_map : List AxisValueMap → Bool
is_segment_map ends = keeps (neg_ℤ (pos 16384)) ends && (keeps (pos 0) ends && keeps (pos 16384) ends)

-- by the ends that count; where they lack one of the three nothing is mapped
abbrev pub mapped : List AxisValueMap → ℤ → ℤ
mapped ends n = if is_segment_map (counting ends) then by_segments (counting ends) n else n
