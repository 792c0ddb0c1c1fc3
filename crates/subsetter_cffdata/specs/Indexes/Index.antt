-- An INDEX: a count, the size of an offset, the offsets, the data. Offsets count from the byte before the data
-- (Technical Note 5176, section 5 "INDEX Data").
use Rattle.std.specs.Prelude.{ℕ, Bool, ◌+◌, ◌-◌, ◌*◌, ◌==◌, ◌||◌, nat_lt, if◌then◌else◌, List, [], ◌∷◌, ◌++◌, take}
use Rattle.std.specs.Prelude.{drop, length, map, Option, Some, None}
use Rattle.std.specs.Int.{is_in_range, bytes_high_first}
use Rattle.std.specs.List.{flat_map, concat, range_with_len}
use Rattle.subsetter_base.specs.Bytes.{be, byte}
use Rattle.subsetter_cffdata.specs.Bytes.{card, part}
use Rattle.subsetter_base.specs.Options.{◌>>=◌}

-- ---- reading
-- offset i, of offsets of size bytes each
abbrev pub offset_at : ℕ → List ℕ → ℕ → ℕ
offset_at size offsets i = be (take size (drop (i * size) offsets))

-- the data from one offset to the next, or None where it can't be read
abbrev pub entry : List ℕ → ℕ → ℕ → Option (List ℕ)
entry object_data from to =
    if (from == 0) || (nat_lt to from || nat_lt (length object_data + 1) to) then None
    else Some (take (to - from) (drop (from - 1) object_data))

-- entry i is the data from offset i to offset i + 1
abbrev pub entry_at : ℕ → List ℕ → List ℕ → ℕ → Option (List ℕ)
entry_at size offsets object_data i = entry object_data (offset_at size offsets i) (offset_at size offsets (i + 1))

abbrev pub entries : ℕ → ℕ → List ℕ → List ℕ → List (Option (List ℕ))
entries size count offsets object_data = map (entry_at size offsets object_data) (range_with_len 0 count)

-- the most bytes that the offsets may take
abbrev pub offsets_limit : ℕ
offsets_limit = 4294967295

-- The last offset gives the data's length. Where it is 0, there are no entries.
unfoldable pub index_data : ℕ → ℕ → List ℕ → Option (List (Option (List ℕ)) × List ℕ)
index_data size count bytes = if nat_lt offsets_limit ((count + 1) * size) then None else do
  offsets ← part ((count + 1) * size) bytes
  object_data ← part (offset_at size offsets.0 count - 1) offsets.1
  Some ((if offset_at size offsets.0 count == 0 then [] else entries size count offsets.0 object_data.0), object_data.1)

-- the offset size is 1 to 4
unfoldable pub index_body : ℕ → List ℕ → Option (List (Option (List ℕ)) × List ℕ)
index_body count bytes = do
  size ← byte bytes
  if is_in_range 1 4 size.0 then index_data size.0 count size.1 else None

-- a count that is no count: the greatest of four bytes
abbrev pub is_no_count : ℕ → Bool
is_no_count count = (count == 0) || (count == 4294967295)

-- The entries of the INDEX in front, and what follows it. The count has two bytes; INDEX structures of later forms have
-- four.
unfoldable pub index_of : ℕ → List ℕ → Option (List (Option (List ℕ)) × List ℕ)
index_of width bytes = do
  count ← card width bytes
  if is_no_count count.0 then Some ([], count.1) else index_body count.0 count.1

abbrev pub index_at : List ℕ → Option (List (Option (List ℕ)) × List ℕ)
index_at bytes = index_of 2 bytes

-- the entries before the first that can't be read
abbrev pub readable : List (Option (List ℕ)) → List (List ℕ)
readable [] = []
readable (None ∷ entries) = []
readable (Some entry ∷ entries) = entry ∷ readable entries

-- ---- writing
-- how many bytes an offset takes
abbrev pub offset_size : ℕ → ℕ
offset_size n = if nat_lt n 256 then 1 else (if nat_lt n 65536 then 2 else (if nat_lt n 16777216 then 3 else 4))

-- the offset after each item
abbrev pub offsets : ℕ → List (List ℕ) → List ℕ
offsets from [] = []
offsets from (item ∷ items) = (from + length item) ∷ offsets (from + length item) items

abbrev pub numbers : ℕ → List ℕ → List ℕ
numbers k ns = flat_map (bytes_high_first k) ns

-- the count, the size of an offset, and the first offset
abbrev pub front : ℕ → ℕ → List ℕ
front count total = bytes_high_first 2 count ++ (offset_size total ∷ bytes_high_first (offset_size total) 1)

unfoldable pub header : List (List ℕ) → List ℕ
header items =
    let size = offset_size (length (concat items) + 1) in
    bytes_high_first 2 (length items) ++ (size ∷ numbers size (1 ∷ offsets 1 items))

unfoldable pub index : List (List ℕ) → List ℕ
index [] = 0 ∷ 0 ∷ []
index (item ∷ items) = header (item ∷ items) ++ concat (item ∷ items)
