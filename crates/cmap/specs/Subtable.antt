-- The table that is used of a `cmap`, and the glyph of a character by it (OpenType, "cmap", "'cmap' Header" and
-- "Encoding records").
use Rattle.std.specs.Prelude.{ℕ, zero, suc, ◌+◌, ◌^◌, ◌==◌, ◌&&◌, ◌||◌, nat_lt, Bool, if◌then◌else◌, List, Option, Some}
use Rattle.std.specs.Prelude.{None}
use Rattle.std.specs.Option.{option_and_then, option_map, unwrap_or}
use Rattle.subsetter_base.specs.Bytes.{number, from_offset}
use Rattle.cmap.specs.Groups.{glyph_by_groups}
use Rattle.cmap.specs.Segments.{glyph_by_segments}
use Rattle.subsetter_base.specs.Options.{first_of}

-- platform 0 is Unicode, and so is platform 3 with encoding 1 or 10
abbrev pub is_unicode : ℕ → ℕ → Bool
is_unicode platform encoding = platform == 0 || (platform == 3 && (encoding == 1 || encoding == 10))

-- a table of a format, which its first two bytes say
abbrev pub of_format : ℕ → List ℕ → Option (List ℕ)
of_format format table = option_and_then (λ f. if f == format then Some table else None) (number table 0 2)

-- the table of a format that the encoding record at a place leads to, if the record is a Unicode one: platformID,
-- encodingID, and the offset of the table
abbrev pub unicode_table : ℕ → List ℕ → ℕ → Option (List ℕ)
unicode_table format cmap at =
    option_and_then (λ platform.
    option_and_then (λ encoding.
    option_and_then (λ offset.
    if is_unicode platform encoding then option_and_then (of_format format) (from_offset cmap offset) else None)
    (number cmap (at + 4) 4)) (number cmap (at + 2) 2)) (number cmap at 2)

-- the first such table of that many encoding records from a place on
unfoldable pub table_from : ℕ → List ℕ → ℕ → ℕ → Option (List ℕ)
table_from format cmap zero at = None
table_from format cmap (suc n) at = first_of (unicode_table format cmap at) (table_from format cmap n (at + 8))

-- the first such table of a `cmap`: numTables is at byte 2, the encoding records after it
abbrev pub table_of_format : ℕ → List ℕ → Option (List ℕ)
table_of_format format cmap = option_and_then (λ n. table_from format cmap n 4) (number cmap 2 2)

-- a table by which glyphs are found
pub data Mapping : Type 0 where
  groups : List ℕ → Mapping
  segments : List ℕ → Mapping

-- the first Unicode table of format 12, which has all characters, else the first of format 4
abbrev pub first_mapping : Option (List ℕ) → Option (List ℕ) → Option Mapping
first_mapping (Some table) other = Some (groups table)
first_mapping None other = option_map segments other

abbrev pub mapping : List ℕ → Option Mapping
mapping cmap = first_mapping (table_of_format 12 cmap) (table_of_format 4 cmap)

-- the glyph of a character, if the table has it; format 4 has characters of 16 bits alone
abbrev pub glyph_in : Mapping → ℕ → Option ℕ
glyph_in (groups table) c = glyph_by_groups table c
glyph_in (segments table) c = if nat_lt c (2 ^ 16) then glyph_by_segments table c else None

-- the glyph of a character: 0 where the table doesn't have it
abbrev pub glyph_of : Mapping → ℕ → ℕ
glyph_of m c = unwrap_or (glyph_in m c) 0
