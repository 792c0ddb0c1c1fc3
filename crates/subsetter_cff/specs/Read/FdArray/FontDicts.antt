-- Which font dict a glyph has (Technical Note 5176, section 18 "CID-keyed Fonts" and section 19 "FDSelect").
use Rattle.std.specs.Prelude.{ℕ, zero, suc, ◌==◌, ◌||◌, ◌&&◌, nat_lt, nat_le, if◌then◌else◌, List, length, map}
use Rattle.std.specs.Prelude.{slice_get, Option, Some, None}
use Rattle.std.specs.Option.{option_map}
use Rattle.subsetter_cffdata.specs.Bytes.{card, part}
use Rattle.subsetter_base.specs.Options.{◌>>=◌}
use Rattle.subsetter_base.specs.Bytes.{byte}
use Rattle.subsetter_cffdata.specs.Indexes.Index.{index_at, readable}
use Rattle.subsetter_cffdata.specs.Dicts.Dict.{Entry, entries}
use Rattle.subsetter_cff.specs.Read.Cff.{Cff, at_offset, char_strings}
use Rattle.subsetter_cff.specs.Read.Entries.Operators.{font_dicts_operator, font_dict_select_operator}

-- the font dicts: the entries of FDArray before the first that is unreadable
unfoldable pub font_dicts : Cff → Option (List (List Entry))
font_dicts cff =
    at_offset cff font_dicts_operator >>= λ bytes. option_map (λ index. map entries (readable index.0)) (index_at bytes)

-- FDSelect: a number for each glyph, or ranges of glyphs
pub data FontDictSelect : Type 0 where
  Each : List ℕ → FontDictSelect
  Ranges : List ℕ → FontDictSelect

-- format 0 has a byte for each of the glyphs, format 3 has ranges
unfoldable pub select_at : ℕ → List ℕ → Option FontDictSelect
select_at glyphs bytes = byte bytes >>= λ format.
    if format.0 == 0 then (part glyphs format.1 >>= λ numbers. Some (Each numbers.0))
    else (if format.0 == 3 then Some (Ranges format.1) else None)

unfoldable pub font_dict_select : Cff → Option FontDictSelect
font_dict_select cff = char_strings cff >>= λ all. at_offset cff font_dict_select_operator >>= select_at (length all)

-- of n ranges, each a first glyph and a font dict, and after them the first glyph that is in none
unfoldable pub in_ranges : ℕ → ℕ → List ℕ → Option ℕ
in_ranges zero glyph bytes = None
in_ranges (suc n) glyph bytes = do
  first ← card 2 bytes
  number ← byte first.1
  next ← card 2 number.1
  if nat_le first.0 glyph && nat_lt glyph next.0 then Some number.0 else in_ranges n glyph number.1

-- the number of a glyph's font dict
unfoldable pub selected : FontDictSelect → ℕ → Option ℕ
selected (Each numbers) glyph = slice_get numbers glyph
selected (Ranges bytes) glyph = card 2 bytes >>= λ count.
    if (count.0 == 0) || (count.0 == 65535) then None else in_ranges count.0 glyph count.1

unfoldable pub font_dict_number : Cff → ℕ → Option ℕ
font_dict_number cff glyph = font_dict_select cff >>= λ select. selected select glyph

-- a glyph's font dict, by FDSelect and FDArray
unfoldable pub font_dict_of : Cff → ℕ → Option (List Entry)
font_dict_of cff glyph = font_dict_number cff glyph >>= λ number. font_dicts cff >>= λ dicts. slice_get dicts number
