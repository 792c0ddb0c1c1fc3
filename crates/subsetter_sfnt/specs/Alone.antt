-- Faces that have bitmaps and no outlines (OpenType, "OpenType tables": "Tables related to bitmap glyphs", "Tables
-- related to color fonts").
use Rattle.std.specs.Prelude.{ℕ, ◌&&◌, ◌||◌, Bool, is_some, if◌then◌else◌, List, Option, Some, None, codes}
use Rattle.subsetter_base.specs.declared.tag.Tag.{Tag}
use Rattle.subsetter_sfnt.specs.Read.{Font, stored}

-- a font has a table of outlines: glyf, `CFF ` or CFF2
abbrev pub has_outlines : (List ℕ → Option (List ℕ)) → Bool
has_outlines find = is_some (find (codes "glyf")) || (is_some (find (codes "CFF ")) || is_some (find (codes "CFF2")))

-- the table of bitmaps: that of `CBDT` or `EBDT` is one where `CBLC` or `EBLC` has their places
abbrev pub bitmap_table : (List ℕ → Option (List ℕ)) → Option Tag
bitmap_table find =
    if is_some (find (codes "CBDT")) && is_some (find (codes "CBLC")) then Some (record { 0 = codes "CBDT" })
    else (if is_some (find (codes "sbix")) then Some (record { 0 = codes "sbix" })
    else (if is_some (find (codes "EBDT")) && is_some (find (codes "EBLC")) then Some (record { 0 = codes "EBDT" })
    else None))

-- that of a face without outlines
abbrev pub bitmaps_alone : Font → Option Tag
bitmaps_alone font = if has_outlines (stored font) then None else bitmap_table (stored font)
