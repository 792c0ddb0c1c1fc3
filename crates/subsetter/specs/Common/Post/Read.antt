-- The names of glyphs (OpenType, "post").
use Rattle.std.specs.Prelude.{◌≡◌, ◌≢◌, ℕ, zero, suc, ◌+◌, ◌-◌, ◌*◌, ◌%◌, ◌<◌, List, [], ◌∷◌, ◌++◌, length, take, drop}
use Rattle.std.specs.Prelude.{flat_map, get_or, slice_index, Option, Some, None, nat_lt, nat_le, ◌==◌, if◌then◌else◌}
use Rattle.std.specs.Option.{option_and_then}
use Rattle.std.specs.Int.{w16, to_be_bytes}
use Rattle.subsetter_base.specs.Bytes.{be, range, number, from_offset}
use Rattle.subsetter_base.specs.Items.{Items, item}
use Rattle.subsetter_base.specs.Options.{◌>>=◌}

-- ---- read

-- a name of the standard Macintosh set by its number, or one of the font's own
pub data GlyphName : Type 0 where
  Standard : (number : ℕ) → GlyphName
  Custom : (bytes : List ℕ) → GlyphName

-- Pascal strings at the front, each a length byte and its bytes; a cut one ends the list. n is at least their count
abbrev pub pascal_strings : ℕ → List ℕ → List (List ℕ)
pascal_strings zero bytes = []
pascal_strings (suc n) [] = []
pascal_strings (suc n) (len ∷ bytes) =
    if nat_le len (length bytes) then take len bytes ∷ pascal_strings n (drop len bytes) else []

abbrev pub names_in : List ℕ → List (List ℕ)
names_in bytes = pascal_strings (length bytes) bytes

-- the header, an index of two bytes for each glyph, and the names after it
pub record PostTable : Type 0 where
  pub header : List ℕ
  pub indexes : Items
  pub names_data : List ℕ

-- a header of 32 bytes, a count, that many indexes, and the rest
abbrev pub post_parts : List ℕ → Option PostTable
post_parts bytes = do
  header ← range bytes 0 32
  count ← number bytes 32 2
  indexes ← range bytes 34 (count * 2)
  names ← from_offset bytes (34 + count * 2)
  Some (record { header = header; indexes = record { bytes = indexes; count = count }; names_data = names })

-- a table of version 2.0
unfoldable pub post_table : List ℕ → Option PostTable
post_table bytes =
    option_and_then (λ version. if version == 0x00020000 then post_parts bytes else None) (number bytes 0 4)

-- glyphNameIndex of a glyph
abbrev pub glyph_index : PostTable → ℕ → Option ℕ
glyph_index t g = do
  bytes ← item 2 t.indexes g
  Some (be bytes)

-- 0 to 257 are the standard names, 258 + k is the font's own name k, which is empty where none is there
abbrev pub name_of_index : List (List ℕ) → ℕ → GlyphName
name_of_index names i = if nat_lt i 258 then Standard i else Custom (get_or names (i - 258) [])

-- the name of a glyph in a table of version 2.0
abbrev pub glyph_name : List ℕ → ℕ → Option GlyphName
glyph_name bytes g = do
  t ← post_table bytes
  i ← glyph_index t g
  Some (name_of_index (names_in t.names_data) i)

-- ---- written

-- the indexes of names, of which k own ones came before: each own name gets an entry of its own, in order
abbrev pub index_bytes : ℕ → List GlyphName → List ℕ
index_bytes k [] = []
index_bytes k (Standard i ∷ ns) = to_be_bytes w16 i ++ index_bytes k ns
index_bytes k (Custom s ∷ ns) = to_be_bytes w16 (258 + k) ++ index_bytes (k + 1) ns

-- a length byte, and the bytes
abbrev pub pascal_bytes : List ℕ → List ℕ
pascal_bytes s = length s % 256 ∷ s

abbrev pub entry_bytes : GlyphName → List ℕ
entry_bytes (Standard i) = []
entry_bytes (Custom s) = pascal_bytes s

-- a table of version 2.0 with a header and the names of its glyphs
unfoldable pub post_bytes : List ℕ → List GlyphName → List ℕ
post_bytes header ns = header ++ to_be_bytes w16 (length ns) ++ index_bytes 0 ns ++ flat_map entry_bytes ns

-- ---- what a subset promises

-- the header is the source's, and each glyph of the order has its name in the source, both there; `name i` is the name
-- of the glyph at place i
pub record HasGlyphNames (source new order : List ℕ) : Type 0 where
  pub header : List ℕ
  pub source_header : range source 0 32 ≡ Some header
  pub new_header : range new 0 32 ≡ Some header
  pub count : number new 32 2 ≡ Some (length order)
  pub name : (i : ℕ) → i < length order → GlyphName
  pub source_name : (i : ℕ) (lt : i < length order) → glyph_name source (slice_index order i) ≡ Some (name i lt)
  pub new_name : (i : ℕ) (lt : i < length order) → glyph_name new i ≡ Some (name i lt)

-- a table of version 2.0 has the names of its glyphs; one of another version is copied
pub data KeepsGlyphNames (source new order : List ℕ) : Type 0 where
  rewritten : number source 0 4 ≡ Some 0x00020000 → HasGlyphNames source new order → KeepsGlyphNames source new order
  copied : (version : ℕ) → number source 0 4 ≡ Some version → version ≢ 0x00020000 → new ≡ source
      → KeepsGlyphNames source new order
