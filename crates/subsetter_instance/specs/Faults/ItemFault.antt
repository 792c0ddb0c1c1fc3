-- The faults of an item of HVAR or MVAR (OpenType, "Item Variation Store", "Associating Target Items to Variation
-- Data", "HVAR" and "MVAR"). Each has the error `MalformedFont`.
use Rattle.std.specs.Prelude.{◌≡◌, ◌≢◌, ◌<◌, ◌≤◌, ℕ, suc, ◌+◌, ◌*◌, ◌/◌, ◌%◌, ◌==◌, ◌&&◌, false, List, length, take}
use Rattle.std.specs.Prelude.{drop, Some, nat_le}
use Rattle.subsetter_base.specs.Bytes.{number, range}
use Rattle.subsetter_variation.specs.Items.FontMetrics.{metric_store, value_of}
use Rattle.subsetter_variation.specs.Items.ItemVariations.{Row, Store, item_row, row_size}
use Rattle.subsetter_variation.specs.Items.Advances.{advance_index, entry_index, map_head, store_of}

-- ---- item variation stores

-- of a store, in a font with `axes` axes: format, and the offset of the list of regions, whose bytes begin with
-- axisCount and regionCount
pub data HasStoreFault (axes : ℕ) (store : List ℕ) : Type 0 where
  -- it ends before the end of that offset
  cut_store : length store < 6 → HasStoreFault axes store
  -- the format isn't 1
  other_format : (format : ℕ) → number store 0 2 ≡ Some format → format ≢ 1 → HasStoreFault axes store
  -- the offset is 0, so there is no list
  no_regions : number store 2 4 ≡ Some 0 → HasStoreFault axes store
  -- the counts go past the end, or the regions, of six bytes for each axis
  cut_region_counts : (at : ℕ) → number store 2 4 ≡ Some at → length store < at + 4 → HasStoreFault axes store
  cut_regions : (at axis_count count : ℕ) → number store 2 4 ≡ Some at → number store at 2 ≡ Some axis_count
      → number store (at + 2) 2 ≡ Some count → length store < at + 4 + count * (axis_count * 6)
      → HasStoreFault axes store
  -- axisCount isn't that of fvar
  other_region_axes : (at axis_count : ℕ) → number store 2 4 ≡ Some at → number store at 2 ≡ Some axis_count
      → axis_count ≢ axes
      → HasStoreFault axes store

-- of item variation data at this offset of a store, and of a row: itemCount, wordDeltaCount and regionIndexCount, the
-- indexes of regions, and the rows
pub data HasRowFault (store : List ℕ) (at inner : ℕ) : Type 0 where
  -- the counts go past the end
  cut_counts : length store < at + 6 → HasRowFault store at inner
  -- there are no more rows
  no_row : (items : ℕ) → number store at 2 ≡ Some items → items ≤ inner → HasRowFault store at inner
  -- there are more words than deltas in a row
  many_words : (words count : ℕ) → number store (at + 2) 2 ≡ Some words → number store (at + 4) 2 ≡ Some count
      → count < words % 32768
      → HasRowFault store at inner
  -- the indexes of regions go past the end
  cut_indexes : (count : ℕ) → number store (at + 4) 2 ≡ Some count → length store < at + 6 + count * 2
      → HasRowFault store at inner
  -- the row goes past the end
  cut_row : (words count : ℕ) → number store (at + 2) 2 ≡ Some words → number store (at + 4) 2 ≡ Some count
      → length store
      < at + 6 + count * 2 + inner * row_size count (words % 32768) (nat_le 32768 words)
      + row_size count (words % 32768) (nat_le 32768 words)
      → HasRowFault store at inner

-- of an item by its outer and its inner index; 0xFFFF and 0xFFFF say that nothing varies
pub data HasItemFault (s : Store) (outer inner : ℕ) : Type 0 where
  -- itemVariationDataCount goes past the end, or is no more than the outer index
  cut_data_count : length s.bytes < 8 → HasItemFault s outer inner
  no_data : (count : ℕ) → number s.bytes 6 2 ≡ Some count → count ≤ outer → HasItemFault s outer inner
  -- the offset of the data goes past the end, or is 0
  cut_data_offset : (count : ℕ) → number s.bytes 6 2 ≡ Some count → outer < count → length s.bytes < 8 + outer * 4 + 4
      → HasItemFault s outer inner
  null_data : (count : ℕ) → number s.bytes 6 2 ≡ Some count → outer < count → number s.bytes (8 + outer * 4) 4 ≡ Some 0
      → HasItemFault s outer inner
  in_row : (count at : ℕ) → number s.bytes 6 2 ≡ Some count → outer < count → number s.bytes (8 + outer * 4) 4 ≡ Some at
      → HasRowFault s.bytes at inner
      → HasItemFault s outer inner
  -- a region of the row, the one numbered k, isn't in the list
  no_region : (r : Row) (k index : ℕ) → item_row s outer inner ≡ Some r → k < r.count
      → number r.indexes (k * 2) 2 ≡ Some index → s.region_count ≤ index
      → HasItemFault s outer inner

-- the indexes name an item, which has one of these
abbrev pub HasIndexedFault : Store → ℕ → ℕ → Type 0
HasIndexedFault s outer inner = ((outer == 65535 && inner == 65535) ≡ false) × HasItemFault s outer inner

-- ---- HVAR

-- of a map of indexes, which says the item of a glyph: format, entryFormat, mapCount of two bytes, in format 1 of four,
-- and the entries
pub data HasMapFault (map : List ℕ) (g : ℕ) : Type 0 where
  -- it ends before the end of entryFormat
  cut_map_head : length map < 2 → HasMapFault map g
  -- the format is neither 0 nor 1
  other_map_format : (format : ℕ) → number map 0 1 ≡ Some format → 1 < format → HasMapFault map g
  -- mapCount goes past the end
  cut_map_count : number map 0 1 ≡ Some 0 → length map < 4 → HasMapFault map g
  cut_long_map_count : number map 0 1 ≡ Some 1 → length map < 6 → HasMapFault map g
  -- it has no entries
  no_entries : (at : ℕ) → map_head map ≡ Some (0, at) → HasMapFault map g
  -- the entry of the glyph, or the last one, goes past the end
  cut_entry : (count at form : ℕ) → map_head map ≡ Some (count, at) → number map 1 1 ≡ Some form
      → length map < at + entry_index count g * (form / 16 % 4 + 1) + (form / 16 % 4 + 1)
      → HasMapFault map g

-- of the item of a glyph's advance, in a font with `axes` axes: itemVariationStoreOffset is the bytes 4 on of HVAR, and
-- advanceWidthMappingOffset, 0 for no map, its bytes 8 on
pub data HasHvarFault (hvar : List ℕ) (axes g : ℕ) : Type 0 where
  -- it ends before the end of these
  cut_hvar : length hvar < 12 → HasHvarFault hvar axes g
  -- the offset of the store is 0, or past the end
  no_store : number hvar 4 4 ≡ Some 0 → HasHvarFault hvar axes g
  far_store : (at : ℕ) → number hvar 4 4 ≡ Some at → length hvar < at → HasHvarFault hvar axes g
  in_store : (at : ℕ) → number hvar 4 4 ≡ Some at → HasStoreFault axes (drop at hvar) → HasHvarFault hvar axes g
  -- the offset of the map is past the end
  far_map : (at : ℕ) → number hvar 8 4 ≡ Some at → length hvar < at → HasHvarFault hvar axes g
  in_map : (at : ℕ) → number hvar 8 4 ≡ Some at → at ≢ 0 → HasMapFault (drop at hvar) g → HasHvarFault hvar axes g
  in_item : (s : Store) (outer inner : ℕ) → store_of hvar axes ≡ Some s → advance_index hvar g ≡ Some (outer, inner)
      → HasIndexedFault s outer inner
      → HasHvarFault hvar axes g

-- ---- MVAR

-- of the next n value records, the first of them the record k, up to the one whose first four bytes are a tag: one goes
-- past the end of MVAR
pub data HasRecordFault (mvar : List ℕ) (size : ℕ) (tag : List ℕ) : ℕ → ℕ → Type 0 where
  cut_record : (n k : ℕ) → length mvar < 12 + k * size + 8 → HasRecordFault mvar size tag (suc n) k
  later_record : (n k : ℕ) (bytes : List ℕ) → range mvar (12 + k * size) 8 ≡ Some bytes → take 4 bytes ≢ tag
      → HasRecordFault mvar size tag n (k + 1)
      → HasRecordFault mvar size tag (suc n) k

-- of the item of a metric's tag, in a font with `axes` axes: valueRecordSize, valueRecordCount and
-- itemVariationStoreOffset are the bytes 6, 8 and 10 of MVAR
pub data HasMvarFault (mvar : List ℕ) (axes : ℕ) (tag : List ℕ) : Type 0 where
  -- it ends before the end of valueRecordCount
  cut_mvar : length mvar < 10 → HasMvarFault mvar axes tag
  -- valueRecordSize is less than 8
  short_record : (size : ℕ) → number mvar 6 2 ≡ Some size → size < 8 → HasMvarFault mvar axes tag
  in_records : (size count : ℕ) → number mvar 6 2 ≡ Some size → number mvar 8 2 ≡ Some count
      → HasRecordFault mvar size tag count 0
      → HasMvarFault mvar axes tag
  -- the tag has a record, and the offset of the store goes past the end, is 0, or leads past the end
  cut_store_offset : (outer inner : ℕ) → value_of mvar tag ≡ Some (Some (outer, inner)) → length mvar < 12
      → HasMvarFault mvar axes tag
  no_metric_store : (outer inner : ℕ) → value_of mvar tag ≡ Some (Some (outer, inner)) → number mvar 10 2 ≡ Some 0
      → HasMvarFault mvar axes tag
  far_metric_store : (outer inner at : ℕ) → value_of mvar tag ≡ Some (Some (outer, inner)) → number mvar 10 2 ≡ Some at
      → length mvar < at
      → HasMvarFault mvar axes tag
  in_metric_store : (outer inner at : ℕ) → value_of mvar tag ≡ Some (Some (outer, inner)) → number mvar 10 2 ≡ Some at
      → HasStoreFault axes (drop at mvar)
      → HasMvarFault mvar axes tag
  in_metric_item : (outer inner : ℕ) (s : Store) → value_of mvar tag ≡ Some (Some (outer, inner))
      → metric_store mvar axes ≡ Some s → HasIndexedFault s outer inner
      → HasMvarFault mvar axes tag
