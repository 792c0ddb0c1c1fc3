-- The variations of a glyph (OpenType, "gvar" and "Tuple Variation Store").
use Rattle.std.specs.Prelude.{ℕ, zero, suc, ◌+◌, ◌-◌, ◌*◌, ◌%◌, ◌==◌, Bool, true, false, List, [], ◌∷◌, length, take}
use Rattle.std.specs.Prelude.{drop, Option, Some, None, nat_lt, nat_le, int_lt, if◌then◌else◌, ℤ, pos}
use Rattle.std.specs.Int.{w16, cast_signed}
use Rattle.std.specs.Option.{option_map}
use Rattle.subsetter_base.specs.Bytes.{be, range, number, from_offset, between_offsets}
use Rattle.subsetter_base.specs.Options.{◌>>=◌}
use Rattle.subsetter_variation.specs.Packing.Packed.{word_in, deltas, point_numbers}
use Rattle.subsetter_variation.specs.declared.region.RegionAxis.{RegionAxis}

-- the first bytes and those after them, if there are as many
abbrev pub split : ℕ → List ℕ → Option (List ℕ × List ℕ)
split n bytes = if nat_le n (length bytes) then Some (take n bytes, drop n bytes) else None

-- ---- the table
-- How many axes and glyphs there are, the bytes of the shared tuples, the offsets of the glyphs' variations, of two or
-- four bytes each, and the bytes that these count in.
pub record Gvar : Type 0 where
  pub axis_count : ℕ
  pub glyph_count : ℕ
  pub long : Bool
  pub shared : List ℕ
  pub offsets : List ℕ
  pub variations : List ℕ

-- the numbers of a tuple
abbrev pub tuple_size : ℕ → ℕ
tuple_size axis_count = axis_count * 2

-- the parts of the table, for these numbers of its header
abbrev pub parts : List ℕ → ℕ → ℕ → Bool → Option Gvar
parts gvar axis_count glyph_count long = do
  shared_count ← number gvar 6 2
  shared_at ← number gvar 8 4
  from ← number gvar 16 4
  shared ← range gvar shared_at (shared_count * tuple_size axis_count)
  offsets ← range gvar 20 ((glyph_count + 1) * (if long then 4 else 2))
  variations ← from_offset gvar from
  Some (record {
    axis_count = axis_count;
    glyph_count = glyph_count;
    long = long;
    shared = shared;
    offsets = offsets;
    variations = variations;
  })

-- offsets are long where bit 0 of the flags is set
unfoldable pub gvar_table : List ℕ → Option Gvar
gvar_table gvar = do
  axis_count ← number gvar 4 2
  glyph_count ← number gvar 12 2
  flags ← number gvar 14 2
  parts gvar axis_count glyph_count (flags % 2 == 1)

-- an offset, or half of it
abbrev pub offset : Gvar → ℕ → Option ℕ
offset t g = if t.long then number t.offsets (g * 4) 4 else option_map (λ half. 2 * half) (number t.offsets (g * 2) 2)

-- the variations of a glyph: the bytes between its offset and the next
unfoldable pub variations_of : Gvar → ℕ → Option (List ℕ)
variations_of t g = if nat_lt g t.glyph_count then (do
  from ← offset t g
  to ← offset t (g + 1)
  between_offsets t.variations from to) else None

-- ---- the tuples of a glyph
-- Those that are left: how many, the bytes of their headers, and those of their points and deltas.
pub record TupleHeaders : Type 0 where
  pub left : ℕ
  pub headers : List ℕ
  pub serialized : List ℕ

-- whether point numbers are shared, which come before those of the tuples, and the tuples
unfoldable pub tuple_headers : List ℕ → Option (Bool × TupleHeaders)
tuple_headers bytes = do
  count ← number bytes 0 2
  at ← number bytes 2 2
  serialized ← from_offset bytes at
  Some (nat_le 32768 count, record { left = count % 4096; headers = drop 4 bytes; serialized = serialized })

-- ---- regions
-- the signed number of the first two bytes
abbrev pub short : List ℕ → ℤ
short bytes = cast_signed w16 (be (take 2 bytes))

-- without ends of its own a peak counts from the default on, and on its side of it alone
abbrev pub plain_region_axis : ℤ → RegionAxis
plain_region_axis peak =
    if int_lt peak (pos 0) then record { start = peak; peak = peak; end = pos 0 }
    else record { start = pos 0; peak = peak; end = peak }

-- on the first axis, with ends of its own or without
abbrev pub region_axis_of : Bool → List ℕ → List ℕ → List ℕ → RegionAxis
region_axis_of inner peaks starts ends =
    if inner then record { start = short starts; peak = short peaks; end = short ends }
    else plain_region_axis (short peaks)

-- a region on the next n axes
abbrev pub region_axes : Bool → ℕ → List ℕ → List ℕ → List ℕ → List RegionAxis
region_axes inner zero peaks starts ends = []
region_axes inner (suc n) peaks starts ends =
    region_axis_of inner peaks starts ends ∷ region_axes inner n (drop 2 peaks) (drop 2 starts) (drop 2 ends)

-- the peaks: bit 0x8000, they are in the header, else among the shared tuples, at the index in the low twelve bits
abbrev pub peaks_in : Gvar → ℕ → List ℕ → Option (List ℕ × List ℕ)
peaks_in t flags bytes =
    if nat_le 32768 flags then split (tuple_size t.axis_count) bytes
    else option_map (λ peaks. (peaks, bytes))
    (range t.shared (flags % 4096 * tuple_size t.axis_count) (tuple_size t.axis_count))

-- bit 0x4000: starts and ends are after
abbrev pub ends_in : ℕ → ℕ → List ℕ → List ℕ → Option (List RegionAxis × List ℕ)
ends_in axis_count flags peaks bytes =
    if nat_le 16384 (flags % 32768) then (do
      starts ← split (tuple_size axis_count) bytes
      ends ← split (tuple_size axis_count) starts.1
      Some (region_axes true axis_count peaks starts.0 ends.0, ends.1))
    else Some (region_axes false axis_count peaks peaks peaks, bytes)

unfoldable pub region_in : Gvar → ℕ → List ℕ → Option (List RegionAxis × List ℕ)
region_in t flags bytes = do
  peaks ← peaks_in t flags bytes
  ends_in t.axis_count flags peaks.0 peaks.1

-- ---- a tuple
-- Its region, whether it has point numbers of its own, and the bytes of its numbers and deltas.
pub record TupleHeader : Type 0 where
  pub region : List RegionAxis
  pub private_numbers : Bool
  pub packed : List ℕ

-- bit 0x2000: point numbers of its own
unfoldable pub next_header : Gvar → TupleHeaders → Option (TupleHeader × TupleHeaders)
next_header t r = do
  size ← word_in r.headers
  flags ← word_in size.1
  region ← region_in t flags.0 flags.1
  own ← split size.0 r.serialized
  Some (
    record { region = region.0; private_numbers = nat_le 8192 (flags.0 % 16384); packed = own.0 },
    record { left = r.left - 1; headers = region.1; serialized = own.1 },
  )

-- ---- deltas
-- those of x, then those of y, one for each point
unfoldable pub both_deltas : ℕ → List ℕ → Option (List ℤ × List ℤ)
both_deltas n bytes = do
  x ← deltas n bytes
  y ← deltas n x.1
  Some (x.0, y.0)

-- how many points have deltas: all below the limit, or those that are listed
abbrev pub count_of : ℕ → Option (List ℕ) → ℕ
count_of limit None = limit
count_of limit (Some numbers) = length numbers

-- point numbers of its own, and the deltas of x and of y
unfoldable pub numbers_and_deltas : ℕ → List ℕ → Option (Option (List ℕ) × List ℤ × List ℤ)
numbers_and_deltas limit bytes = do
  numbers ← point_numbers limit bytes
  both ← both_deltas (count_of limit numbers.0) numbers.1
  Some (numbers.0, both.0, both.1)

-- ---- whole tuples
-- Where it counts, the points that it gives deltas for, none for all, and these deltas.
pub record Tuple : Type 0 where
  pub region : List RegionAxis
  pub numbers : Option (List ℕ)
  pub dx : List ℤ
  pub dy : List ℤ

-- the point numbers that the tuples of a glyph share, none for all, and the tuples, whose data are after them
unfoldable pub shared_numbers : ℕ → Bool → TupleHeaders → Option (Option (List ℕ) × TupleHeaders)
shared_numbers limit is_shared r =
    if is_shared then option_map (λ n. (n.0, record r { serialized = n.1 })) (point_numbers limit r.serialized)
    else Some (None, r)

-- a tuple with its point numbers, its own or the shared ones
unfoldable pub tuple_of : ℕ → Option (List ℕ) → TupleHeader → Option Tuple
tuple_of limit shared h =
    if h.private_numbers
    then option_map (λ d. record { region = h.region; numbers = d.0; dx = d.1; dy = d.2 })
    (numbers_and_deltas limit h.packed)
    else option_map (λ d. record { region = h.region; numbers = shared; dx = d.0; dy = d.1 })
    (both_deltas (count_of limit shared) h.packed)
