-- What is wrong with the tables by which characters have glyphs (OpenType, "cmap").
use Rattle.std.specs.Prelude.{ℕ, ◌+◌, ◌*◌, ◌/◌, nat_lt, if◌then◌else◌, List, length, Option, Some, None, codes}
use Rattle.std.specs.Option.{option_and_then}
use Rattle.subsetter_base.specs.Bytes.{number}
use Rattle.subsetter_base.specs.declared.tag.Tag.{Tag}
use Rattle.subsetter_sfnt.specs.Read.{Font, stored}
use Rattle.cmap.specs.Subtable.{Mapping, groups, segments}
use Rattle.text_glyphs.specs.Choice.{Chosen, chosen, mapped, coded}
use Rattle.font_reasons.specs.File.{or_else}
use Rattle.font_reasons.specs.Parts.{no_table}
use Rattle.font_reasons.specs.Short.{short}
use Rattle.font_reasons.specs.declared.reason.Reason.{Reason}
use Rattle.font_reasons.specs.declared.reason.Reason.TheVariants.{NoUnicode, ShortMap}

abbrev pub cmap_tag : Tag
cmap_tag = record { 0 = codes "cmap" }

abbrev pub no_cmap : Font → Option Reason
no_cmap font = no_table font cmap_tag

-- numTables ends at byte 4, and an encoding record for each has eight bytes more
abbrev pub encodings_end : Option ℕ → ℕ
encodings_end None = 4
encodings_end (Some count) = 4 + 8 * count

abbrev pub short_cmap : List ℕ → Option Reason
short_cmap cmap = short cmap_tag (encodings_end (number cmap 2 2)) cmap

-- numGroups of format 12 ends at byte 16, and each group has 12 bytes
abbrev pub groups_end : Option ℕ → ℕ
groups_end None = 16
groups_end (Some count) = 16 + 12 * count

-- format 4 has 16 bytes besides eight for each segment, of which there are half of segCountX2
abbrev pub segments_end : Option ℕ → ℕ
segments_end None = 16
segments_end (Some twice) = 16 + 8 * (twice / 2)

-- the bytes of a table, up to the end of `cmap`, are fewer than it needs
abbrev pub short_map : ℕ → List ℕ → ℕ → Option Reason
short_map format table needed =
    if nat_lt (length table) needed then Some (ShortMap format (length table) needed) else None

abbrev pub short_mapping : Mapping → Option Reason
short_mapping (groups table) = short_map 12 table (groups_end (number table 12 4))
short_mapping (segments table) = short_map 4 table (segments_end (number table 6 2))

abbrev pub short_chosen : Chosen → Option Reason
short_chosen (mapped m) = short_mapping m
short_chosen (coded encoding table) = None

-- what glyphs of characters are found by: a table that is read
abbrev pub no_unicode_by : List ℕ → Option Chosen → Option Reason
no_unicode_by cmap None = or_else (short_cmap cmap) (Some NoUnicode)
no_unicode_by cmap (Some found) = short_chosen found

unfoldable pub no_unicode : Font → Option Reason
no_unicode font = option_and_then (λ cmap. no_unicode_by cmap (chosen cmap)) (stored font (codes "cmap"))

abbrev pub no_mapping : Font → Option Reason
no_mapping font = or_else (no_cmap font) (no_unicode font)
