-- The matrices that are written (Technical Note 5176, section 9 "Top DICT Data" and section 18 "CID-keyed Fonts").
use Rattle.std.specs.Prelude.{List, map, unwrap_or, Option}
use Rattle.std.specs.Option.{option_map}
use Rattle.subsetter_cffdata.specs.declared.numerals.number.Number.{Number as StoredNumber}
use Rattle.subsetter_cffdata.specs.Numerals.Numbers.{Number}
use Rattle.subsetter_cffdata.specs.Views.{number_of}
use Rattle.subsetter_cff.specs.Read.Entries.Matrices.{thousandth_matrix, zero_box}

-- the matrix that is written for the font
abbrev pub new_top_matrix : Option (List Number) → List Number
new_top_matrix top = unwrap_or top thousandth_matrix

-- FontBBox as it is written
abbrev pub new_box : Option (List Number) → List Number
new_box own = unwrap_or own zero_box

-- the numbers of a matrix in memory
abbrev pub shown : Option (List StoredNumber) → Option (List Number)
shown o = option_map (map number_of) o
