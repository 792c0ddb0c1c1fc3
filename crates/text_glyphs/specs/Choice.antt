-- Which table of a `cmap` is used, and a character's glyph by it (OpenType, "cmap", "'cmap' Header" and "Encoding
-- records").
use Rattle.std.specs.Prelude.{ℕ, zero, suc, ◌+◌, ◌==◌, ◌||◌, Bool, if◌then◌else◌, List, Option, Some, None}
use Rattle.std.specs.Option.{option_and_then, option_map, unwrap_or}
use Rattle.subsetter_base.specs.Bytes.{number, from_offset}
use Rattle.subsetter_base.specs.Options.{first_of}
use Rattle.cmap.specs.Subtable.{Mapping, mapping, glyph_of}
use Rattle.text_glyphs.specs.Encodings.{code_of, is_of}
use Rattle.text_glyphs.specs.Formats.{glyph_by_code}
use Rattle.text_glyphs.specs.declared.encodings.Encoding.{Encoding}
use Rattle.text_glyphs.specs.declared.encodings.Encoding.TheVariants.{Unicode, Symbol, Roman}

-- the formats that are read
abbrev pub is_read : ℕ → Bool
is_read format = format == 0 || (format == 4 || (format == 6 || (format == 12 || format == 13)))

abbrev pub if_read : List ℕ → Option (List ℕ)
if_read table = option_and_then (λ format. if is_read format then Some table else None) (number table 0 2)

-- the table that the encoding record at a place leads to, if the record is of an encoding: platformID, encodingID, and
-- the offset of the table
abbrev pub encoded_table : Encoding → List ℕ → ℕ → Option (List ℕ)
encoded_table encoding cmap at =
    option_and_then (λ platform.
    option_and_then (λ id.
    option_and_then (λ offset.
    if is_of encoding platform id then option_and_then if_read (from_offset cmap offset) else None)
    (number cmap (at + 4) 4)) (number cmap (at + 2) 2)) (number cmap at 2)

-- the first such table of that many encoding records from a place on
unfoldable pub encoded_from : Encoding → List ℕ → ℕ → ℕ → Option (List ℕ)
encoded_from encoding cmap zero at = None
encoded_from encoding cmap (suc n) at =
    first_of (encoded_table encoding cmap at) (encoded_from encoding cmap n (at + 8))

-- the first such table of a `cmap`: numTables is at byte 2, the encoding records after it
abbrev pub encoded : Encoding → List ℕ → Option (List ℕ)
encoded encoding cmap = option_and_then (λ n. encoded_from encoding cmap n 4) (number cmap 2 2)

-- a Unicode table of format 12 or 4, or another one, in its encoding
pub data Chosen : Type 0 where
  mapped : Mapping → Chosen
  coded : Encoding → List ℕ → Chosen

-- the first of two that is there
abbrev pub or_else : Option Chosen → Option Chosen → Option Chosen
or_else (Some chosen) other = Some chosen
or_else None other = other

abbrev pub in_encoding : Encoding → List ℕ → Option Chosen
in_encoding encoding cmap = option_map (coded encoding) (encoded encoding cmap)

-- the Unicode table of format 12, else 4, else another; else a symbol table, else one of Mac OS Roman
abbrev pub chosen : List ℕ → Option Chosen
chosen cmap =
    or_else (option_map mapped (mapping cmap))
    (or_else (in_encoding Unicode cmap) (or_else (in_encoding Symbol cmap) (in_encoding Roman cmap)))

-- a character's glyph: 0 where the table doesn't have it
abbrev pub coded_glyph : Encoding → List ℕ → ℕ → ℕ
coded_glyph encoding table c = unwrap_or (option_map (glyph_by_code table) (code_of encoding c)) 0

abbrev pub character_glyph : Chosen → ℕ → ℕ
character_glyph (mapped m) c = glyph_of m c
character_glyph (coded encoding table) c = coded_glyph encoding table c
