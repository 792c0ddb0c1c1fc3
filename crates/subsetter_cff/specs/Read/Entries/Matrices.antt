-- The matrices and the font dict name of a glyph (Technical Note 5176, section 9 "Top DICT Data" and section 18
-- "CID-keyed Fonts").
use Rattle.std.specs.Prelude.{ℕ, pos, negsuc, if◌then◌else◌, List, [], ◌∷◌, ◌++◌, take, drop, map, Option, Some, None}
use Rattle.std.specs.Option.{option_map}
use Rattle.subsetter_base.specs.Options.{◌>>=◌}
use Rattle.subsetter_cffdata.specs.Reals.Decimals.{Decimal}
use Rattle.subsetter_cffdata.specs.Numerals.Numbers.{Number, Integer, Real}
use Rattle.subsetter_cffdata.specs.Numerals.Values.{value, thousandfold}
use Rattle.subsetter_cff.specs.Read.Entries.Lookup.{last_of}
use Rattle.subsetter_cff.specs.Read.Cff.{Cff, is_cid_keyed}
use Rattle.subsetter_cff.specs.Read.FdArray.FontDicts.{font_dict_of}
use Rattle.subsetter_cff.specs.Read.Strings.{FontString, string_at}
use Rattle.subsetter_cff.specs.Read.Entries.Operators.{font_matrix_operator, font_name_operator}

abbrev pub thousandth : Number
thousandth = Real (record { mantissa = pos 1; power = negsuc 2 })

-- the FontMatrix of a font that has none: 0.001 0 0 0.001 0 0
abbrev pub thousandth_matrix : List Number
thousandth_matrix = thousandth ∷ Integer (pos 0) ∷ Integer (pos 0) ∷ thousandth ∷ Integer (pos 0) ∷ Integer (pos 0) ∷ []

-- the matrix that changes nothing: 1 0 0 1 0 0
abbrev pub unit_matrix : List Number
unit_matrix =
    Integer (pos 1) ∷ Integer (pos 0) ∷ Integer (pos 0) ∷ Integer (pos 1) ∷ Integer (pos 0) ∷ Integer (pos 0) ∷ []

-- the first four a thousand times as great
abbrev pub magnified : List Decimal → List Decimal
magnified m = map thousandfold (take 4 m) ++ drop 4 m

-- The matrix of the font and that of the font dict, by their values. A font without one has 0.001 0 0 0.001 0 0, which
-- its font dicts' matrices include; a font dict without one has 1 0 0 1 0 0.
abbrev pub matrix_pair : Option (List Number) → Option (List Number) → List Decimal × List Decimal
matrix_pair (Some top) (Some own) = (map value top, map value own)
matrix_pair (Some top) None = (map value top, map value unit_matrix)
matrix_pair None (Some own) = (map value thousandth_matrix, magnified (map value own))
matrix_pair None None = (map value thousandth_matrix, map value unit_matrix)

-- the matrix of a glyph's font dict, where it has one; a font without font dicts has none
unfoldable pub own_matrix : Cff → ℕ → Option (Option (List Number))
own_matrix cff glyph =
    if is_cid_keyed cff then option_map (last_of font_matrix_operator) (font_dict_of cff glyph) else Some None

unfoldable pub matrices : Cff → ℕ → Option (List Decimal × List Decimal)
matrices cff glyph = option_map (matrix_pair (last_of font_matrix_operator cff.top)) (own_matrix cff glyph)

-- the matrices in the top dict and in a glyph's font dict, by their values
unfoldable pub stated_matrices : Cff → ℕ → Option (List Decimal × List Decimal)
stated_matrices cff glyph = do
  top ← last_of font_matrix_operator cff.top
  there ← own_matrix cff glyph
  own ← there
  Some (map value top, map value own)

-- the name of a glyph's font dict, where it has one; None where that string can't be read
unfoldable pub font_dict_name : Cff → ℕ → Option (Option FontString)
font_dict_name cff glyph =
    if is_cid_keyed cff then (font_dict_of cff glyph >>= string_at cff.strings font_name_operator) else Some None

-- FontBBox where the font has none
abbrev pub zero_box : List Number
zero_box = Integer (pos 0) ∷ Integer (pos 0) ∷ Integer (pos 0) ∷ Integer (pos 0) ∷ []
