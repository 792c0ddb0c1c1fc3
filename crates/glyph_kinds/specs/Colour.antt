-- Glyphs with colours (OpenType, "COLR - Color Table", "SVG - The SVG (Scalable Vector Graphics) Table").
use Rattle.std.specs.Prelude.{ℕ, ◌+◌, ◌*◌, ◌==◌, nat_le, Bool, is_some, if◌then◌else◌, List, Option, Some, None}
use Rattle.subsetter_base.specs.Bytes.{number, from_offset}
use Rattle.subsetter_base.specs.Options.{◌>>=◌}
use Rattle.text_glyphs.specs.Halves.{last_up_to}

-- the part of a table that the offset at a place leads to; 0 is none
abbrev pub part : List ℕ → ℕ → Option (List ℕ)
part table at = number table at 4 >>= λ offset. if offset == 0 then None else from_offset table offset

-- of n records of six bytes from a place on, which begin with glyphID and ascend by it, the index of a glyph's
abbrev pub glyph_record : List ℕ → ℕ → ℕ → ℕ → Option ℕ
glyph_record table at n g = do
  k ← last_up_to table at 6 2 n g
  found ← number table (at + 6 * k) 2
  if found == g then Some k else None

-- version 0, "BaseGlyph and Layer records": numBaseGlyphRecords is at byte 2, baseGlyphRecordsOffset at byte 4
unfoldable pub layers_record : List ℕ → ℕ → Option ℕ
layers_record colr g = do
  n ← number colr 2 2
  records ← part colr 4
  glyph_record records 0 n g

-- from version 1 on, "BaseGlyphList": baseGlyphListOffset is at byte 14, in the list numBaseGlyphPaintRecords at byte 0
-- and the records at byte 4
unfoldable pub paint_record : List ℕ → ℕ → Option ℕ
paint_record colr g = do
  version ← number colr 0 2
  list ← part colr 14
  n ← number list 0 4
  if version == 0 then None else glyph_record list 4 n g

-- svgDocumentListOffset is at byte 2, in the list numEntries at byte 0; the records at byte 2, of twelve bytes, ascend
-- by startGlyphID, and endGlyphID is after it
unfoldable pub document_record : List ℕ → ℕ → Option ℕ
document_record svg g = do
  list ← part svg 2
  n ← number list 0 2
  k ← last_up_to list 2 12 2 n g
  last ← number list (4 + 12 * k) 2
  if nat_le g last then Some k else None

-- whether a table has a record of a glyph
abbrev pub is_found : (List ℕ → ℕ → Option ℕ) → Option (List ℕ) → ℕ → Bool
is_found record_in table g = is_some (table >>= λ bytes. record_in bytes g)
