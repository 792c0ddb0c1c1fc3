-- Bitmaps of glyphs (OpenType, "EBLC - Embedded Bitmap Location Table", which "CBLC" has the form of).
use Rattle.std.specs.Prelude.{ℕ, ◌+◌, ◌-◌, ◌*◌, ◌==◌, ◌&&◌, nat_le, not, Bool, false, if◌then◌else◌, List, Option, Some}
use Rattle.std.specs.Prelude.{None}
use Rattle.std.specs.Option.{option_map_or}
use Rattle.subsetter_base.specs.Bytes.{number, from_offset}
use Rattle.subsetter_base.specs.Options.{◌>>=◌}
use Rattle.text_glyphs.specs.Halves.{last_up_to}
use Rattle.glyph_kinds.specs.Strikes.{any_strike}

-- how far the number at one place is below the number at another; each has `width` bytes
abbrev pub gap : List ℕ → ℕ → ℕ → ℕ → Option ℕ
gap table at next width = do
  from ← number table at width
  to ← number table next width
  Some (to - from)

-- format 4: numGlyphs at byte 8, pairs of glyphID and sbitOffset at byte 12, one more than that; they ascend
unfoldable pub paired_size : List ℕ → ℕ → Option ℕ
paired_size subtable g = do
  n ← number subtable 8 4
  k ← last_up_to subtable 12 4 2 n g
  found ← number subtable (12 + 4 * k) 2
  size ← gap subtable (14 + 4 * k) (18 + 4 * k) 2
  if found == g then Some size else None

-- format 5: imageSize at byte 8, numGlyphs at byte 20, glyphIdArray at byte 24, which ascends
unfoldable pub listed_size : List ℕ → ℕ → Option ℕ
listed_size subtable g = do
  size ← number subtable 8 4
  n ← number subtable 20 4
  k ← last_up_to subtable 24 2 2 n g
  found ← number subtable (24 + 2 * k) 2
  if found == g then Some size else None

-- how many bytes the image of a glyph has by an index subtable of a format, whose range has the glyph at a place:
-- 1 and 3 have sbitOffsets at byte 8, of four bytes or of two, one more than the range has glyphs; 2 and 5 have
-- imageSize at byte 8
abbrev pub image_size : ℕ → List ℕ → ℕ → ℕ → Option ℕ
image_size format subtable place g =
    if format == 1 then gap subtable (8 + 4 * place) (12 + 4 * place) 4
    else (if format == 2 then number subtable 8 4
    else (if format == 3 then gap subtable (8 + 2 * place) (10 + 2 * place) 2
    else (if format == 4 then paired_size subtable g
    else (if format == 5 then listed_size subtable g else None))))

-- "IndexSubHeader": indexFormat is at byte 0, imageFormat at byte 2; an image of no bytes is none
unfoldable pub image_in : List ℕ → ℕ → ℕ → Option ℕ
image_in subtable place g = do
  format ← number subtable 0 2
  image ← number subtable 2 2
  size ← image_size format subtable place g
  if size == 0 then None else Some image

-- "IndexSubtableRecord": firstGlyphIndex, lastGlyphIndex, and where the subtable is in the list; records of eight
-- bytes, whose ranges ascend
unfoldable pub image_by : List ℕ → ℕ → ℕ → Option ℕ
image_by list n g = do
  k ← last_up_to list 0 8 2 n g
  first ← number list (8 * k) 2
  last ← number list (8 * k + 2) 2
  offset ← number list (8 * k + 4) 4
  subtable ← from_offset list offset
  if nat_le g last then image_in subtable (g - first) g else None

-- "BitmapSize record", of 48 bytes from byte 8 on: indexSubtableListOffset is at byte 0, numberOfIndexSubtables at byte
-- 8. The format of a glyph's image in a strike
unfoldable pub image_format : List ℕ → ℕ → ℕ → Option ℕ
image_format table k g = do
  offset ← number table (8 + 48 * k) 4
  n ← number table (16 + 48 * k) 4
  list ← from_offset table offset
  image_by list n g

-- a format, or one that isn't among 17, 18 and 19, which `CBDT` alone has
abbrev pub is_format : Option ℕ → ℕ → Bool
is_format (Some wanted) format = format == wanted
is_format None format = not (nat_le 17 format && nat_le format 19)

abbrev pub has_format : Option ℕ → Option ℕ → Bool
has_format wanted format = option_map_or (is_format wanted) format false

-- whether a glyph has an image of such a format in a strike
abbrev pub has_image : Option (List ℕ) → Option ℕ → ℕ → Bool
has_image table wanted g =
    option_map_or (λ bytes. any_strike (λ k. has_format wanted (image_format bytes k g)) bytes) table false
