-- Pictures in the formats of other standards (OpenType, "sbix - Standard Bitmap Graphics Table").
use Rattle.std.specs.Prelude.{ℕ, ◌+◌, ◌*◌, ◌==◌, ◌||◌, nat_lt, not, Bool, false, if◌then◌else◌, List, Option, Some}
use Rattle.std.specs.Prelude.{None}
use Rattle.std.specs.Option.{option_map_or}
use Rattle.subsetter_base.specs.Bytes.{number, from_offset, between_offsets}
use Rattle.subsetter_base.specs.Options.{◌>>=◌}
use Rattle.glyph_kinds.specs.Strikes.{any_strike}

-- graphicType of a glyph's data in a strike, at byte 4 of it: strikeOffsets are at byte 8, and glyphDataOffsets at byte
-- 4 of the strike, one more than the font has glyphs
unfoldable pub graphic_type : List ℕ → ℕ → ℕ → ℕ → Option ℕ
graphic_type sbix count k g = do
  offset ← number sbix (8 + 4 * k) 4
  strike ← from_offset sbix offset
  from ← number strike (4 + 4 * g) 4
  to ← number strike (8 + 4 * g) 4
  glyph ← between_offsets strike from to
  if nat_lt g count then number glyph 4 4 else None

-- the types that have a kind of their own: `png `, `jpg `, `tiff`, `pdf `, `mask` and `dupe`
abbrev pub is_known : ℕ → Bool
is_known type =
    type == 0x706E6720
    || (type == 0x6A706720
    || (type == 0x74696666 || (type == 0x70646620 || (type == 0x6D61736B || type == 0x64757065))))

-- a type, or one that isn't among these
abbrev pub is_type : Option ℕ → ℕ → Bool
is_type (Some wanted) type = type == wanted
is_type None type = not (is_known type)

abbrev pub has_type : Option ℕ → Option ℕ → Bool
has_type wanted type = option_map_or (is_type wanted) type false

-- whether a glyph, in a font of `count` glyphs, has a graphic of the wanted type in a strike
abbrev pub has_graphic : Option (List ℕ) → ℕ → Option ℕ → ℕ → Bool
has_graphic table count wanted g =
    option_map_or (λ bytes. any_strike (λ k. has_type wanted (graphic_type bytes count k g)) bytes) table false
