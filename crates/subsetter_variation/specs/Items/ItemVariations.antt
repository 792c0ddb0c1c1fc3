-- Item variation stores (OpenType, "Item Variation Store").
use Rattle.std.specs.Prelude.{ℕ, zero, suc, ◌+◌, ◌*◌, ◌/◌, ◌%◌, ◌^◌, ◌==◌, ◌&&◌, Bool, List, length, map, drop, take}
use Rattle.std.specs.Prelude.{Option, Some, None, Result, Ok, Err, nat_lt, nat_le, if◌then◌else◌, ℤ, pos, ◌+ℤ◌, ◌*ℤ◌}
use Rattle.std.specs.Prelude.{unsigned_abs}
use Rattle.std.specs.Int.{w8, w16, w32, cast_signed}
use Rattle.std.specs.List.{range_with_len}
use Rattle.std.specs.Option.{option_map}
use Rattle.subsetter_base.specs.Bytes.{be, range, number, signed_at}
use Rattle.subsetter_base.specs.Items.{Items, values}
use Rattle.subsetter_base.specs.declared.error.Error.{Error}
use Rattle.subsetter_base.specs.declared.error.Error.TheVariants.{MalformedFont, OverflowError}
use Rattle.subsetter_base.specs.Options.{◌>>=◌}
use Rattle.subsetter_variation.specs.Nearest.{nearest}
use Rattle.subsetter_variation.specs.Region.{scalar}
use Rattle.subsetter_variation.specs.declared.region.RegionAxis.{RegionAxis}

-- an offset of 32 bits, unless it is 0, which means no table (OpenType, "Data Types")
abbrev pub nullable_offset : List ℕ → ℕ → Option ℕ
nullable_offset bytes at = do
  offset ← number bytes at 4
  if offset == 0 then None else Some offset

-- ---- the store
-- The axes of a region, the bytes of the regions, how many there are, and the bytes of the store, in which its item
-- variation data lie.
pub record Store : Type 0 where
  pub axis_count : ℕ
  pub region_count : ℕ
  pub regions : List ℕ
  pub bytes : List ℕ

-- format 1; the list of regions: the count of axes, that of regions, and for each region and axis three numbers
unfoldable pub item_store : List ℕ → Option Store
item_store bytes = do
  format ← number bytes 0 2
  at ← nullable_offset bytes 2
  axis_count ← number bytes at 2
  region_count ← number bytes (at + 2) 2
  regions ← range bytes (at + 4) (region_count * (axis_count * 6))
  if format == 1
      then Some (record { axis_count = axis_count; region_count = region_count; regions = regions; bytes = bytes })
      else None

-- on one axis: startCoord, peakCoord and endCoord
abbrev pub region_axis_in : List ℕ → RegionAxis
region_axis_in bytes = record { start = signed_at bytes 0; peak = signed_at bytes 2; end = signed_at bytes 4 }

-- a region, if the list has as many
abbrev pub region_items : Store → ℕ → Option Items
region_items s index =
    if nat_lt index s.region_count
    then option_map (λ bytes. record { bytes = bytes; count = s.axis_count })
    (range s.regions (index * (s.axis_count * 6)) (s.axis_count * 6))
    else None

abbrev pub region_of : Items → List RegionAxis
region_of items = values 6 (λ bytes. Some (region_axis_in bytes)) items

-- ---- item variation data
-- A row of deltas: how many regions it is for, how many of its deltas are words, whether words are long, the indexes of
-- its regions, and its deltas.
pub record Row : Type 0 where
  pub count : ℕ
  pub words : ℕ
  pub long : Bool
  pub indexes : List ℕ
  pub deltas : List ℕ

-- the deltas of a row: words of two bytes and then single bytes, twice the size where they are long
abbrev pub row_size : ℕ → ℕ → Bool → ℕ
row_size count words long = (count + words) * (if long then 2 else 1)

-- the row of an item, for the counts of its data's header: the header, the indexes of the regions, and a row for each
-- item
abbrev pub row_at : List ℕ → ℕ → ℕ → ℕ → ℕ → Bool → Option Row
row_at bytes at inner count words long = do
  indexes ← range bytes (at + 6) (count * 2)
  deltas ← range bytes (at + 6 + count * 2 + inner * row_size count words long) (row_size count words long)
  Some (record { count = count; words = words; long = long; indexes = indexes; deltas = deltas })

-- the header: itemCount, wordDeltaCount, whose bit 0x8000 says that words are long, and regionIndexCount
unfoldable pub row_in : List ℕ → ℕ → ℕ → Option Row
row_in bytes at inner = do
  items ← number bytes at 2
  words ← number bytes (at + 2) 2
  count ← number bytes (at + 4) 2
  if nat_lt inner items && nat_le (words % 32768) count
      then row_at bytes at inner count (words % 32768) (nat_le 32768 words)
      else None

-- the row of an item: the outer index is that of its data, the inner one that of its row
unfoldable pub item_row : Store → ℕ → ℕ → Option Row
item_row s outer inner = do
  data_count ← number s.bytes 6 2
  at ← if nat_lt outer data_count then nullable_offset s.bytes (8 + outer * 4) else None
  row_in s.bytes at inner

-- where item variation data are in the store
abbrev pub data_offset : Store → ℕ → Option ℕ
data_offset s outer = do
  data_count ← number s.bytes 6 2
  if nat_lt outer data_count then nullable_offset s.bytes (8 + outer * 4) else None

-- the bytes that spell the indexes of the regions of item variation data: regionIndexCount, and two bytes for each
unfoldable pub data_regions : Store → ℕ → Option (List ℕ)
data_regions s outer = do
  at ← data_offset s outer
  count ← number s.bytes (at + 4) 2
  range s.bytes (at + 6) (count * 2)

abbrev pub region_index : List ℕ → ℕ → ℕ
region_index bytes k = be (take 2 (drop (k * 2) bytes))

abbrev pub region_indexes : List ℕ → List ℕ
region_indexes bytes = map (region_index bytes) (range_with_len 0 (length bytes / 2))

-- the delta for the region numbered k
abbrev pub word_delta : Row → ℕ → Option ℤ
word_delta r k =
    if r.long then option_map (cast_signed w32) (number r.deltas (k * 4) 4)
    else option_map (cast_signed w16) (number r.deltas (k * 2) 2)

abbrev pub byte_delta : Row → ℕ → Option ℤ
byte_delta r k =
    if r.long then option_map (cast_signed w16) (number r.deltas ((r.words + k) * 2) 2)
    else option_map (cast_signed w8) (number r.deltas (r.words + k) 1)

abbrev pub delta : Row → ℕ → Option ℤ
delta r k = if nat_lt k r.words then word_delta r k else byte_delta r k

-- the scalar of the region numbered k of a row, times its delta
unfoldable pub term : Store → List ℤ → Row → ℕ → Option ℤ
term s at r k = do
  index ← number r.indexes (k * 2) 2
  region ← region_items s index
  d ← delta r k
  Some (scalar (region_of region) at *ℤ d)

-- the sum of the next n terms
abbrev pub terms : Store → List ℤ → Row → ℕ → ℕ → Option ℤ
terms s at r zero k = Some (pos 0)
terms s at r (suc n) k = do
  first ← term s at r k
  rest ← terms s at r n (k + 1)
  Some (first +ℤ rest)

-- what an item varies by at a location, in parts of 2^30; the indexes 0xFFFF and 0xFFFF mean no variation
unfoldable pub item_delta : Store → List ℤ → ℕ → ℕ → Option ℤ
item_delta s at outer inner =
    if outer == 65535 && inner == 65535 then Some (pos 0)
    else item_row s outer inner >>= λ r. terms s at r r.count 0

-- parts of 2^30 in whole units, or the name of what is wrong: a table without a reading, or 2^32 units or more
abbrev pub in_whole_units : ℤ → Result ℤ Error
in_whole_units d = if nat_lt (unsigned_abs d) (2 ^ 62) then Ok (nearest d (2 ^ 30)) else Err OverflowError

abbrev pub whole_or_fault : Option ℤ → Result ℤ Error
whole_or_fault None = Err MalformedFont
whole_or_fault (Some d) = in_whole_units d
