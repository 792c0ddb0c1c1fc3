-- What the operators of top and font dicts demand of their operands (Technical Note 5176, section 9 "Top DICT Data" and
-- section 18 "CID-keyed Fonts"): how many, each of its kind and in its range. Other operators demand nothing.
use Rattle.std.specs.Prelude.{ℕ, ◌==◌, Bool, List, [], ◌∷◌, length, is_some}
use Rattle.subsetter_cffdata.specs.Numerals.Numbers.{Number}
use Rattle.subsetter_cffdata.specs.Dicts.Operands.{string_operand, offset_operand, range_operands}
use Rattle.subsetter_cff.specs.Read.Entries.Operators.{notice_operator, font_box_operator, charset_operator}
use Rattle.subsetter_cff.specs.Read.Entries.Operators.{char_strings_operator, private_operator, copyright_operator}
use Rattle.subsetter_cff.specs.Read.Entries.Operators.{font_matrix_operator, font_dicts_operator}
use Rattle.subsetter_cff.specs.Read.Entries.Operators.{font_dict_select_operator, font_name_operator}

-- what an operator demands
pub record Demand : Type 0 where
  pub operator : List ℕ
  pub holds : List Number → Bool

-- the number of a string, from 0 to 65535
abbrev pub one_string : List Number → Bool
one_string xs = is_some (string_operand xs)

-- an offset, from 0 to 2147483647
abbrev pub one_offset : List Number → Bool
one_offset xs = is_some (offset_operand xs)

-- a length and an offset, each from 0 to 2147483647
abbrev pub one_range : List Number → Bool
one_range xs = is_some (range_operands xs)

-- n numbers, no more and no fewer
abbrev pub so_many : ℕ → List Number → Bool
so_many n xs = length xs == n

-- of a top dict: Notice, Copyright, FontName, charset, CharStrings, FDArray, FDSelect, Private, FontMatrix, FontBBox
abbrev pub top_demands : List Demand
top_demands =
    record { operator = notice_operator; holds = one_string }
    ∷ record { operator = copyright_operator; holds = one_string }
    ∷ record { operator = font_name_operator; holds = one_string }
    ∷ record { operator = charset_operator; holds = one_offset }
    ∷ record { operator = char_strings_operator; holds = one_offset }
    ∷ record { operator = font_dicts_operator; holds = one_offset }
    ∷ record { operator = font_dict_select_operator; holds = one_offset }
    ∷ record { operator = private_operator; holds = one_range }
    ∷ record { operator = font_matrix_operator; holds = so_many 6 }
    ∷ record { operator = font_box_operator; holds = so_many 4 } ∷ []

-- of a font dict: Private, FontName, FontMatrix
abbrev pub font_dict_demands : List Demand
font_dict_demands =
    record { operator = private_operator; holds = one_range }
    ∷ record { operator = font_name_operator; holds = one_string }
    ∷ record { operator = font_matrix_operator; holds = so_many 6 } ∷ []
