-- The advances of `HVAR`, the vertical origins of `VVAR`, and the maps that lead from a glyph to its item (OpenType,
-- "HVAR", "VVAR" and "Associating Target Items to Variation Data").
use Rattle.std.specs.Prelude.{ℕ, ◌+◌, ◌-◌, ◌*◌, ◌/◌, ◌%◌, ◌^◌, ◌==◌, List, length, map, Option, Some, None, nat_lt}
use Rattle.std.specs.Prelude.{if◌then◌else◌, ℤ, Result}
use Rattle.std.specs.Option.{option_map}
use Rattle.subsetter_base.specs.Bytes.{number, from_offset}
use Rattle.subsetter_base.specs.declared.error.Error.{Error}
use Rattle.subsetter_base.specs.Options.{◌>>=◌}
use Rattle.subsetter_variation.specs.Items.ItemVariations.{Store, item_delta, item_store, nullable_offset}
use Rattle.subsetter_variation.specs.Items.ItemVariations.{whole_or_fault}

-- how many entries a map of indexes has, by its format, and where they are
abbrev pub map_head : List ℕ → Option (ℕ × ℕ)
map_head map = do
  format ← number map 0 1
  if format == 0 then option_map (λ n. (n, 4)) (number map 2 2)
      else if format == 1 then option_map (λ n. (n, 6)) (number map 2 4)
      else None

-- an entry: its low bits are the inner index, the others the outer one
abbrev pub split_index : ℕ → ℕ → ℕ × ℕ
split_index bits entry = (entry / 2 ^ bits, entry % 2 ^ bits)

-- the entry of a glyph, past the end the last one
abbrev pub entry_index : ℕ → ℕ → ℕ
entry_index count g = if nat_lt g count then g else count - 1

-- entryFormat says the size of an entry, less one, in the bits 0x30, and how many bits the inner index has, less one,
-- in 0x0F
unfoldable pub mapped_index : List ℕ → ℕ → Option (ℕ × ℕ)
mapped_index map g = do
  head ← map_head map
  form ← number map 1 1
  entry ← if head.0 == 0 then None
      else number map (head.1 + entry_index head.0 g * (form / 16 % 4 + 1)) (form / 16 % 4 + 1)
  Some (split_index (form % 16 + 1) entry)

-- the outer and the inner index of a glyph's advance: without a map 0 and the glyph
unfoldable pub advance_index : List ℕ → ℕ → Option (ℕ × ℕ)
advance_index hvar g = do
  at ← number hvar 8 4
  if at == 0 then Some (0, g) else from_offset hvar at >>= λ map. mapped_index map g

-- the store of HVAR, whose regions have as many axes as the font
unfoldable pub store_of : List ℕ → ℕ → Option Store
store_of hvar axis_count = do
  at ← nullable_offset hvar 4
  bytes ← from_offset hvar at
  s ← item_store bytes
  if s.axis_count == axis_count then Some s else None

-- what the advance of a glyph varies by at a place, in parts of 2^30
unfoldable pub advance_delta : List ℕ → List ℤ → ℕ → Option ℤ
advance_delta hvar at g = do
  s ← store_of hvar (length at)
  index ← advance_index hvar g
  item_delta s at index.0 index.1

-- the same in whole units, or the name of what is wrong
abbrev pub advance_or_fault : List ℕ → List ℤ → ℕ → Result ℤ Error
advance_or_fault hvar at g = whole_or_fault (advance_delta hvar at g)

-- the same of an item, by a store, if both are there
abbrev pub delta_by : Option Store → List ℤ → Option (ℕ × ℕ) → Result ℤ Error
delta_by store at item = whole_or_fault (store >>= λ s. item >>= λ index. item_delta s at index.0 index.1)

-- the outer and the inner index of a glyph's vertical origin, by vOrgMapping of `VVAR`; without the map there are none
unfoldable pub origin_index : List ℕ → ℕ → Option (ℕ × ℕ)
origin_index vvar g = do
  at ← nullable_offset vvar 20
  map ← from_offset vvar at
  mapped_index map g

-- what the y of a glyph's vertical origin in `VORG` varies by at a place, in parts of 2^30
unfoldable pub origin_delta : List ℕ → List ℤ → ℕ → Option ℤ
origin_delta vvar at g = do
  s ← store_of vvar (length at)
  index ← origin_index vvar g
  item_delta s at index.0 index.1

-- the same in whole units, or the name of what is wrong
abbrev pub origin_or_fault : List ℕ → List ℤ → ℕ → Result ℤ Error
origin_or_fault vvar at g = whole_or_fault (origin_delta vvar at g)
