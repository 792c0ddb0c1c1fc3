-- Tables that are shorter than what is read of them (OpenType, "head", "maxp", "hhea", "post" and "name").
use Rattle.std.specs.Prelude.{ℕ, ◌+◌, ◌*◌, ◌==◌, Bool, true, false, max, nat_le, nat_lt, if◌then◌else◌, List, length}
use Rattle.std.specs.Prelude.{Option, Some, None, codes}
use Rattle.std.specs.Option.{option_and_then, option_map}
use Rattle.subsetter_base.specs.Bytes.{number}
use Rattle.subsetter_base.specs.declared.tag.Tag.{Tag}
use Rattle.subsetter_sfnt.specs.Fields.Post.{num_glyphs, version}
use Rattle.subsetter_sfnt.specs.Read.{Font, stored}
use Rattle.font_reasons.specs.File.{or_else}
use Rattle.font_reasons.specs.Parts.{first_past}
use Rattle.font_reasons.specs.declared.reason.Reason.{Reason}
use Rattle.font_reasons.specs.declared.reason.Reason.TheVariants.{NoIndex, Short}

-- the bytes of a table are fewer than it needs
abbrev pub short : Tag → ℕ → List ℕ → Option Reason
short tag needed bytes = if nat_lt (length bytes) needed then Some (Short tag (length bytes) needed) else None

abbrev pub short_table : Font → Tag → ℕ → Option Reason
short_table font tag needed = option_and_then (short tag needed) (stored font tag.0)

-- indexToLocFormat of `head` ends at byte 52, numGlyphs of `maxp` at 6
abbrev pub short_head : Font → Option Reason
short_head font = short_table font (record { 0 = codes "head" }) 52

abbrev pub short_maxp : Font → Option Reason
short_maxp font = short_table font (record { 0 = codes "maxp" }) 6

-- numberOfHMetrics of `hhea` ends at byte 36; `hmtx` is read by it
abbrev pub short_hhea : Font → Option Reason
short_hhea font =
    option_and_then (λ hmtx. short_table font (record { 0 = codes "hhea" }) 36) (stored font (codes "hmtx"))

unfoldable pub short_header : Font → Option Reason
short_header font = or_else (short_head font) (or_else (short_maxp font) (short_hhea font))

-- the version of `post` has four bytes. Version 2.0 has a header of 32, numGlyphs, and for each glyph an index of two
-- bytes
abbrev pub indexes_end : Option ℕ → ℕ
indexes_end None = 34
indexes_end (Some count) = 34 + 2 * count

abbrev pub post_size_by : List ℕ → Option ℕ → ℕ
post_size_by post None = 4
post_size_by post (Some version) = if version == 0x00020000 then indexes_end (num_glyphs post) else 4

abbrev pub short_post_of : List ℕ → Option Reason
short_post_of post = short (record { 0 = codes "post" }) (post_size_by post (version post)) post

-- without the names of glyphs it is 32 bytes, if it has as many, of which none says more
abbrev pub short_kept_post : Bool → List ℕ → Option Reason
short_kept_post true post = short_post_of post
short_kept_post false post = if nat_le 32 (length post) then None else short_post_of post

abbrev pub short_post : Bool → Font → Option Reason
short_post names font = option_and_then (short_kept_post names) (stored font (codes "post"))

-- version 2.0 has no index for the first of these glyphs
abbrev pub no_index_by : List ℕ → ℕ → Option Reason
no_index_by glyphs count = option_map NoIndex (first_past count glyphs)

abbrev pub no_index_in : List ℕ → List ℕ → ℕ → Option Reason
no_index_in post glyphs version =
    if version == 0x00020000 then option_and_then (no_index_by glyphs) (num_glyphs post) else None

abbrev pub no_index_of : List ℕ → List ℕ → Option Reason
no_index_of glyphs post = option_and_then (no_index_in post glyphs) (version post)

abbrev pub no_index : Font → List ℕ → Option Reason
no_index font glyphs = option_and_then (no_index_of glyphs) (stored font (codes "post"))

-- the version of `name` has two bytes. Version 0 has count and storageOffset, two bytes each, count records of twelve
-- bytes, and the storage at its offset
abbrev pub records_end : Option ℕ → Option ℕ → ℕ
records_end (Some count) (Some storage) = max (6 + 12 * count) storage
records_end (Some count) None = 6
records_end None storage = 6

abbrev pub name_size_by : List ℕ → Option ℕ → ℕ
name_size_by name None = 2
name_size_by name (Some version) = if version == 0 then records_end (number name 2 2) (number name 4 2) else 2

abbrev pub short_name_of : List ℕ → Option Reason
short_name_of name = short (record { 0 = codes "name" }) (name_size_by name (number name 0 2)) name

abbrev pub short_name : Font → Option Reason
short_name font = option_and_then short_name_of (stored font (codes "name"))
