-- Variation sequences: a character and a variation selector (OpenType, "cmap", "Format 14: Unicode variation
-- sequences").
use Rattle.std.specs.Prelude.{ℕ, zero, suc, ◌+◌, ◌-◌, ◌*◌, ◌==◌, ◌&&◌, nat_le, Bool, false, if◌then◌else◌, List, Option}
use Rattle.std.specs.Prelude.{Some, None}
use Rattle.std.specs.Option.{option_and_then, option_map, unwrap_or}
use Rattle.subsetter_base.specs.Bytes.{number, from_offset}
use Rattle.subsetter_base.specs.Options.{first_of}
use Rattle.text_glyphs.specs.Halves.{last_up_to}

-- the table of format 14 that the encoding record at a place leads to: platformID is 0, encodingID 5
abbrev pub if_sequences : List ℕ → Option (List ℕ)
if_sequences table = option_and_then (λ format. if format == 14 then Some table else None) (number table 0 2)

abbrev pub are_sequences : ℕ → ℕ → Bool
are_sequences platform id = platform == 0 && id == 5

abbrev pub sequences_table : List ℕ → ℕ → Option (List ℕ)
sequences_table cmap at =
    option_and_then (λ platform.
    option_and_then (λ id.
    option_and_then (λ offset.
    if are_sequences platform id then option_and_then if_sequences (from_offset cmap offset) else None)
    (number cmap (at + 4) 4)) (number cmap (at + 2) 2)) (number cmap at 2)

-- the first such table of that many encoding records from a place on
unfoldable pub sequences_from : List ℕ → ℕ → ℕ → Option (List ℕ)
sequences_from cmap zero at = None
sequences_from cmap (suc n) at = first_of (sequences_table cmap at) (sequences_from cmap n (at + 8))

abbrev pub sequences_of : List ℕ → Option (List ℕ)
sequences_of cmap = option_and_then (λ n. sequences_from cmap n 4) (number cmap 2 2)

-- where the record of a selector is: numVarSelectorRecords is at byte 6, the records at byte 10, of eleven bytes, which
-- ascend by varSelector
abbrev pub if_selects : List ℕ → ℕ → ℕ → Option ℕ
if_selects table at selector =
    option_and_then (λ found. if found == selector then Some at else None) (number table at 3)

abbrev pub selector_record : List ℕ → ℕ → Option ℕ
selector_record table selector =
    option_and_then (λ n.
    option_and_then (λ k. if_selects table (10 + 11 * k) selector) (last_up_to table 10 11 3 n selector))
    (number table 6 4)

-- the table that an offset of a record leads to; 0 means none
abbrev pub part : List ℕ → ℕ → Option (List ℕ)
part table offset = if offset == 0 then None else from_offset table offset

abbrev pub part_at : List ℕ → ℕ → Option (List ℕ)
part_at table at = option_and_then (part table) (number table at 4)

-- "Default UVS table": numUnicodeValueRanges is at byte 0, the ranges at byte 4, of four bytes, which ascend:
-- startUnicodeValue, and additionalCount at byte 3
abbrev pub range_has : List ℕ → ℕ → ℕ → Option Bool
range_has defaults at c =
    option_and_then (λ start. option_map (λ more. nat_le (c - start) more) (number defaults (at + 3) 1))
    (number defaults at 3)

abbrev pub last_has : List ℕ → ℕ → Option Bool
last_has defaults c =
    option_and_then (λ n. option_and_then (λ k. range_has defaults (4 + 4 * k) c) (last_up_to defaults 4 4 3 n c))
    (number defaults 0 4)

abbrev pub has_default : List ℕ → ℕ → Bool
has_default defaults c = unwrap_or (last_has defaults c) false

-- "Non-Default UVS table": numUVSMappings is at byte 0, the mappings at byte 4, of five bytes, which ascend:
-- unicodeValue, and glyphID at byte 3
abbrev pub mapping_glyph : List ℕ → ℕ → ℕ → Option ℕ
mapping_glyph others at c =
    option_and_then (λ found. if found == c then number others (at + 3) 2 else None) (number others at 3)

abbrev pub other_glyph : List ℕ → ℕ → Option ℕ
other_glyph others c =
    option_and_then (λ n. option_and_then (λ k. mapping_glyph others (4 + 5 * k) c) (last_up_to others 4 5 3 n c))
    (number others 0 4)

-- the glyph of a sequence that isn't the character's own: of defaultUVSOffset and nonDefaultUVSOffset, at bytes 3 and 7
-- of the record, the first says where it is
abbrev pub is_default : List ℕ → ℕ → ℕ → Bool
is_default table at c = unwrap_or (option_map (λ defaults. has_default defaults c) (part_at table (at + 3))) false

abbrev pub glyph_by_record : List ℕ → ℕ → ℕ → Option ℕ
glyph_by_record table at c =
    if is_default table at c then None else option_and_then (λ others. other_glyph others c) (part_at table (at + 7))

unfoldable pub sequence_glyph : List ℕ → ℕ → ℕ → Option ℕ
sequence_glyph table c selector = option_and_then (λ at. glyph_by_record table at c) (selector_record table selector)
