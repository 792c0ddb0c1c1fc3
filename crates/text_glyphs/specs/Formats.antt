-- The glyph of a code by the formats of a table of `cmap` (OpenType, "cmap", "Format 0: Byte encoding table", "Format
-- 6: Trimmed table mapping", "Format 13: Many-to-one range mappings").
use Rattle.std.specs.Prelude.{ℕ, ◌+◌, ◌-◌, ◌*◌, ◌==◌, nat_le, nat_lt, if◌then◌else◌, List, Option, None}
use Rattle.std.specs.Option.{option_and_then, option_map, unwrap_or}
use Rattle.subsetter_base.specs.Bytes.{number}
use Rattle.cmap.specs.Groups.{in_range}
use Rattle.cmap.specs.Subtable.{groups, segments, glyph_of}
use Rattle.text_glyphs.specs.Halves.{last_up_to}

-- format 0: glyphIdArray, 256 bytes, is at byte 6
abbrev pub glyph_by_bytes : List ℕ → ℕ → Option ℕ
glyph_by_bytes table code = if nat_lt code 256 then number table (6 + code) 1 else None

-- format 6: firstCode and entryCount are at bytes 6 and 8, glyphIdArray at byte 10
abbrev pub trimmed : List ℕ → ℕ → ℕ → ℕ → Option ℕ
trimmed table first count code =
    if nat_lt code first then None
    else (if nat_lt (code - first) count then number table (10 + 2 * (code - first)) 2 else None)

abbrev pub glyph_by_trimmed : List ℕ → ℕ → Option ℕ
glyph_by_trimmed table code =
    option_and_then (λ first. option_and_then (λ count. trimmed table first count code) (number table 8 2))
    (number table 6 2)

-- format 13: numGroups is at byte 12, the groups at byte 16, which ascend; of each endCharCode and glyphID are at bytes
-- 4 and 8, and all of its characters have that glyph
abbrev pub group_glyph : List ℕ → ℕ → ℕ → Option ℕ
group_glyph table at code =
    option_and_then (λ end.
    option_and_then (λ glyph. if nat_le code end then in_range glyph else None) (number table (at + 8) 4))
    (number table (at + 4) 4)

abbrev pub glyph_by_ranges : List ℕ → ℕ → Option ℕ
glyph_by_ranges table code =
    option_and_then (λ n. option_and_then (λ k. group_glyph table (16 + 12 * k) code) (last_up_to table 16 12 4 n code))
    (number table 12 4)

-- the glyph by a table of a format: 0 where it has none
abbrev pub by_format : ℕ → List ℕ → ℕ → ℕ
by_format format table code =
    if format == 0 then unwrap_or (glyph_by_bytes table code) 0
    else (if format == 4 then glyph_of (segments table) code
    else (if format == 6 then unwrap_or (glyph_by_trimmed table code) 0
    else (if format == 12 then glyph_of (groups table) code
    else (if format == 13 then unwrap_or (glyph_by_ranges table code) 0 else 0))))

-- the format is what the first two bytes say
unfoldable pub glyph_by_code : List ℕ → ℕ → ℕ
glyph_by_code table code = unwrap_or (option_map (λ format. by_format format table code) (number table 0 2)) 0
