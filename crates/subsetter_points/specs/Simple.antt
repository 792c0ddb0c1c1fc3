-- A simple glyph description as points, and points as a simple glyph description (OpenType, chapter "glyf").
-- A Point of the code is x and y, whole numbers, and whether it is on the curve.
use Rattle.std.specs.Prelude.{ℕ, zero, suc, ◌+◌, ◌-◌, Bool, true, false, ◌&&◌, List, [], ◌∷◌, ◌++◌, length, take, drop}
use Rattle.std.specs.Prelude.{map, flat_map, Option, Some, None, nat_lt, nat_le, ◌==◌, if◌then◌else◌, ℤ, pos, negsuc}
use Rattle.std.specs.Prelude.{◌+ℤ◌, ◌-ℤ◌, neg_ℤ, unsigned_abs}
use Rattle.std.specs.List.{fold, list_all}
use Rattle.std.specs.Int.{w16, to_be_bytes, cast_signed, cast_unsigned, int_min, int_max}
use Rattle.subsetter_base.specs.Bytes.{number, has_flag}
use Rattle.subsetter_base.specs.Options.{◌>>=◌}
use Rattle.subsetter_points.specs.declared.outline.Column.{Column}
use Rattle.subsetter_points.specs.declared.outline.Column.TheVariants.{XCoordinates, YCoordinates}
use Rattle.subsetter_points.specs.declared.outline.Point.{Point}
use Rattle.subsetter_points.specs.declared.lists.deltas.Encoding.{Encoding}
use Rattle.subsetter_points.specs.declared.lists.deltas.Encoding.TheVariants.{Same, Positive, Negative, Word}
use Rattle.subsetter_points.specs.declared.lists.flags.Run.{Run}

-- an outline: its contours, each a list of points
abbrev pub Outline : Type 0
Outline = List (List Point)

-- the points of all contours, one after the other
abbrev pub all_points : Outline → List Point
all_points outline = flat_map (λ contour. contour) outline

-- a number fits 16 bits with a sign
abbrev pub has_16_bits : ℤ → Bool
has_16_bits (pos n) = nat_lt n 0x8000
has_16_bits (negsuc n) = nat_lt n 0x8000

-- ---- what bytes begin with, and the bytes after it

-- the next uint8, and the bytes after it
abbrev pub byte : List ℕ → Option (ℕ × List ℕ)
byte bytes = do
  n ← number bytes 0 1
  Some (n, drop 1 bytes)

-- the next uint16, and the bytes after it
abbrev pub word : List ℕ → Option (ℕ × List ℕ)
word bytes = do
  n ← number bytes 0 2
  Some (n, drop 2 bytes)

-- the bytes after the first `size`, if these are there
abbrev pub after : ℕ → List ℕ → Option (List ℕ)
after size bytes = if nat_le size (length bytes) then Some (drop size bytes) else None

-- ---- endPtsOfContours

-- the number of the last point of a contour, whose first point is `from`: a contour has a point at least
abbrev pub end_at : ℕ → List ℕ → Option (ℕ × List ℕ)
end_at from bytes = do
  end ← word bytes
  if nat_le from end.0 then Some end else None

-- the last points of n contours, in increasing order: the first point of each contour follows the last one of the
-- contour before it
unfoldable pub ends : ℕ → ℕ → List ℕ → Option (List ℕ × List ℕ)
ends zero from bytes = Some ([], bytes)
ends (suc n) from bytes = do
  end ← end_at from bytes
  more ← ends n (end.0 + 1) end.1
  Some (end.0 ∷ more.0, more.1)

-- how many points there are: one more than the number of the last one
abbrev pub count : ℕ → List ℕ → ℕ
count from [] = from
count from (end ∷ ends) = count (end + 1) ends

-- the points of each contour
unfoldable pub contours : ℕ → List ℕ → List Point → Outline
contours from [] points = []
contours from (end ∷ ends) points =
    take (end + 1 - from) points ∷ contours (end + 1) ends (drop (end + 1 - from) points)

-- ---- flags

-- the number of additional times that a flag is to be repeated: the next byte where REPEAT_FLAG is set, else 0
abbrev pub repeats_at : ℕ → List ℕ → Option (ℕ × List ℕ)
repeats_at flag bytes = if has_flag flag 0x08 then byte bytes else Some (0, bytes)

-- a flag that is in the bytes, and how often it is to be repeated
abbrev pub run_at : List ℕ → Option (Run × List ℕ)
run_at bytes = do
  flag ← byte bytes
  repeats ← repeats_at flag.0 flag.1
  Some (record { flag = flag.0; repeats = repeats.0 }, repeats.1)

-- the next point's flag: the one before it while that is to be repeated, else one that is in the bytes
abbrev pub next : Run → List ℕ → Option (Run × List ℕ)
next run bytes =
    if run.repeats == 0 then run_at bytes else Some (record { flag = run.flag; repeats = run.repeats - 1 }, bytes)

-- the flags of n points; none is repeated past the last point
unfoldable pub flags : ℕ → Run → List ℕ → Option (List ℕ × List ℕ)
flags zero run bytes = if run.repeats == 0 then Some ([], bytes) else None
flags (suc n) run bytes = do
  first ← next run bytes
  more ← flags n first.0 first.1
  Some (first.0.flag ∷ more.0, more.1)

-- ---- xCoordinates and yCoordinates

-- how a flag says that a delta, the vector from the coordinate before, is encoded. With the short bit (X_SHORT_VECTOR)
-- it is one byte, and the same bit (X_IS_SAME_OR_POSITIVE_X_SHORT_VECTOR) is its sign, set for plus; without the short
-- bit it is nothing where the same bit is set, as the coordinate is the same as before, and else int16
abbrev pub encoding_of : ℕ → ℕ → ℕ → Encoding
encoding_of short same flag =
    if has_flag flag short then (if has_flag flag same then Positive else Negative)
    else (if has_flag flag same then Same else Word)

-- a delta in an encoding
abbrev pub delta_at : Encoding → List ℕ → Option (ℤ × List ℕ)
delta_at Same bytes = Some (pos 0, bytes)
delta_at Positive bytes = do
  size ← byte bytes
  Some (pos size.0, size.1)
delta_at Negative bytes = do
  size ← byte bytes
  Some (neg_ℤ (pos size.0), size.1)
delta_at Word bytes = do
  bits ← word bytes
  Some (cast_signed w16 bits.0, bits.1)

-- a coordinate, if it has 16 bits, as each side of the bounding box has
abbrev pub in_16_bits : ℤ → Option ℤ
in_16_bits v = if has_16_bits v then Some v else None

-- the coordinate that a flag says: the one before it, v, and a delta
abbrev pub coordinate : ℕ → ℕ → ℤ → ℕ → List ℕ → Option (ℤ × List ℕ)
coordinate short same v flag bytes = do
  by ← delta_at (encoding_of short same flag) bytes
  x ← in_16_bits (v +ℤ by.0)
  Some (x, by.1)

-- the coordinate that each flag says; the first is relative to v
unfoldable pub coordinates : ℕ → ℕ → ℤ → List ℕ → List ℕ → Option (List ℤ × List ℕ)
coordinates short same v [] bytes = Some ([], bytes)
coordinates short same v (flag ∷ flags) bytes = do
  x ← coordinate short same v flag bytes
  more ← coordinates short same x.0 flags x.1
  Some (x.0 ∷ more.0, more.1)

-- X_SHORT_VECTOR is 0x02 and X_IS_SAME_OR_POSITIVE_X_SHORT_VECTOR 0x10, those of Y are 0x04 and 0x20; the first point
-- is relative to (0, 0)
abbrev pub xs : List ℕ → List ℕ → Option (List ℤ × List ℕ)
xs flags bytes = coordinates 0x02 0x10 (pos 0) flags bytes

abbrev pub ys : List ℕ → List ℕ → Option (List ℤ × List ℕ)
ys flags bytes = coordinates 0x04 0x20 (pos 0) flags bytes

-- a point from each flag, which has ON_CURVE_POINT set or not, and its coordinates
unfoldable pub points : List ℕ → List ℤ → List ℤ → List Point
points (flag ∷ flags) (x ∷ xs) (y ∷ ys) = record { x = x; y = y; on_curve = has_flag flag 0x01 } ∷ points flags xs ys
points _ _ _ = []

-- ---- a simple glyph description

-- the flags of all points, then their x coordinates, then their y coordinates; bytes after them pad the description
unfoldable pub points_at : ℕ → List ℕ → Option (List Point)
points_at n bytes = do
  f ← flags n (record { flag = 0; repeats = 0 }) bytes
  x ← xs f.0 f.1
  y ← ys f.0 x.1
  Some (points f.0 x.0 y.0)

-- the bytes after the instructions, whose size (instructionLength) is before them
abbrev pub body_at : List ℕ → Option (List ℕ)
body_at bytes = do
  size ← word bytes
  after size.0 size.1

-- endPtsOfContours, the instructions, which are passed over, and the points
unfoldable pub parts_at : ℕ → List ℕ → Option (List ℕ × List Point)
parts_at n bytes = do
  e ← ends n 0 bytes
  body ← body_at e.1
  p ← points_at (count 0 e.0) body
  Some (e.0, p)

-- a glyph of zero contours needs no data after its header, so what is there doesn't count
abbrev pub description_at : ℕ → List ℕ → Option (List ℕ × List Point)
description_at n bytes = if n == 0 then Some ([], []) else parts_at n bytes

-- the header is ten bytes: numberOfContours, which is below 0 for a composite glyph, and the bounding box, which is
-- passed over
abbrev pub header_at : List ℕ → Option (ℕ × List ℕ)
header_at bytes = do
  n ← number bytes 0 2
  rest ← after 10 bytes
  if nat_lt n 0x8000 then Some (n, rest) else None

-- the numbers of the contours' last points, and the points; a glyph without bytes has no outline
unfoldable pub parts : List ℕ → Option (List ℕ × List Point)
parts [] = Some ([], [])
parts (b ∷ bytes) = do
  header ← header_at (b ∷ bytes)
  description_at header.0 header.1

-- the contours of a simple glyph, if the bytes are one
abbrev pub simple : List ℕ → Option Outline
simple bytes = do
  p ← parts bytes
  Some (contours 0 p.0 p.1)

-- ---- written

-- the shortest encoding of a delta: nothing for 0, a byte below 256 in size, else int16
abbrev pub shortest_encoding : ℤ → Encoding
shortest_encoding (pos n) = if n == 0 then Same else (if nat_lt n 256 then Positive else Word)
shortest_encoding (negsuc n) = if nat_lt n 255 then Negative else Word

-- the bytes of a delta in an encoding
abbrev pub encoded_delta : Encoding → ℤ → List ℕ
encoded_delta Same d = []
encoded_delta Positive d = unsigned_abs d ∷ []
encoded_delta Negative d = unsigned_abs d ∷ []
encoded_delta Word d = to_be_bytes w16 (cast_unsigned w16 d)

-- the bits of a flag that say an encoding
abbrev pub encoding_bits : ℕ → ℕ → Encoding → ℕ
encoding_bits short same Same = same
encoding_bits short same Positive = short + same
encoding_bits short same Negative = short
encoding_bits short same Word = 0

-- the flag of a point, by whether it says that contours may overlap (OVERLAP_SIMPLE), whether the point is on the
-- curve, and how its two deltas are encoded
abbrev pub flag_of : Bool → Bool → Encoding → Encoding → ℕ
flag_of overlap on x y =
    (if overlap then 0x40 else 0) + (if on then 0x01 else 0) + encoding_bits 0x02 0x10 x + encoding_bits 0x04 0x20 y

-- the flag of each point, by itself: none is repeated. The first point's deltas are from x and y, and no flag but the
-- first says that contours may overlap
unfoldable pub flag_bytes : Bool → ℤ → ℤ → List Point → List ℕ
flag_bytes overlap x y [] = []
flag_bytes overlap x y (p ∷ points) =
    flag_of overlap p.on_curve (shortest_encoding (p.x -ℤ x)) (shortest_encoding (p.y -ℤ y))
    ∷ flag_bytes false p.x p.y points

-- each coordinate as a delta from the one before it, at first from v
unfoldable pub delta_bytes : ℤ → List ℤ → List ℕ
delta_bytes v [] = []
delta_bytes v (x ∷ xs) = encoded_delta (shortest_encoding (x -ℤ v)) (x -ℤ v) ++ delta_bytes x xs

-- the two bytes of an int16
abbrev pub signed_word : ℤ → List ℕ
signed_word v = to_be_bytes w16 (cast_unsigned w16 v)

abbrev pub xs_of : List Point → List ℤ
xs_of points = map (λ p. p.x) points

abbrev pub ys_of : List Point → List ℤ
ys_of points = map (λ p. p.y) points

-- a coordinate of a point, and the same of points
abbrev pub coordinate_in : Column → Point → ℤ
coordinate_in XCoordinates p = p.x
coordinate_in YCoordinates p = p.y

abbrev pub column_of : Column → List Point → List ℤ
column_of column points = map (λ p. coordinate_in column p) points

-- the bounding box of a point and others, on the curve or not: xMin, yMin, xMax, yMax
abbrev pub box : Point → List Point → List ℕ
box p points =
    signed_word (fold int_min p.x (xs_of points)) ++ signed_word (fold int_min p.y (ys_of points))
    ++ signed_word (fold int_max p.x (xs_of points)) ++ signed_word (fold int_max p.y (ys_of points))

-- the bytes of endPtsOfContours, uint16 each
abbrev pub end_bytes : List ℕ → List ℕ
end_bytes ends = flat_map (to_be_bytes w16) ends

-- flags, of which the first has OVERLAP_SIMPLE, as contours of a variable font may overlap; xCoordinates and
-- yCoordinates
abbrev pub point_bytes : List Point → List ℕ
point_bytes points =
    flag_bytes true (pos 0) (pos 0) points ++ (delta_bytes (pos 0) (xs_of points) ++ delta_bytes (pos 0) (ys_of points))

-- nothing where there are no points; else numberOfContours, the box, endPtsOfContours, no instructions, and the points
unfoldable pub parts_bytes : List ℕ → List Point → List ℕ
parts_bytes ends [] = []
parts_bytes ends (p ∷ points) =
    to_be_bytes w16 (length ends) ++ (box p points ++ (end_bytes ends ++ (0 ∷ 0 ∷ point_bytes (p ∷ points))))

-- the number of each contour's last point; the first contour begins with the point `from`
unfoldable pub ends_of : ℕ → Outline → List ℕ
ends_of from [] = []
ends_of from (c ∷ outline) = (from + length c - 1) ∷ ends_of (from + length c) outline

-- the simple glyph description of contours
abbrev pub simple_bytes : Outline → List ℕ
simple_bytes outline = parts_bytes (ends_of 0 outline) (all_points outline)

-- ---- what can be written

-- each coordinate has 16 bits, and so has each delta to it from the one before it, at first from v
unfoldable pub deltas_fit : ℤ → List ℤ → Bool
deltas_fit v [] = true
deltas_fit v (x ∷ xs) = has_16_bits x && (has_16_bits (x -ℤ v) && deltas_fit x xs)

abbrev pub points_fit : List Point → Bool
points_fit points =
    nat_lt (length points) 0x10000 && (deltas_fit (pos 0) (xs_of points) && deltas_fit (pos 0) (ys_of points))

-- an outline can be written: at most 32767 contours (numberOfContours), each with a point, at most 65535 points
-- (maxPoints of "maxp"), and coordinates and deltas of 16 bits
abbrev pub fits : Outline → Bool
fits outline =
    nat_lt (length outline) 0x8000 && (list_all (λ c. nat_lt 0 (length c)) outline && points_fit (all_points outline))

-- the last points of contours that have n points in all: none is before the first point of its contour, and the last
-- one is the last point
unfoldable pub are_ends : ℕ → List ℕ → ℕ → Bool
are_ends from [] n = from == n
are_ends from (end ∷ ends) n = nat_le from end && are_ends (end + 1) ends n

-- the same, of the ends and the points
abbrev pub parts_fit : List ℕ → List Point → Bool
parts_fit ends points = are_ends 0 ends (length points) && (nat_lt (length ends) 0x8000 && points_fit points)
