-- The numbers of the source that are written into the dicts of a subset (Technical Note 5176, section 4 "DICT Data").
use Rattle.std.specs.Prelude.{◌||◌, Bool, false, List, [], ◌∷◌, ◌++◌}
use Rattle.std.specs.List.{flat_map}
use Rattle.subsetter_cffdata.specs.Numerals.Numbers.{Number, is_too_long}
use Rattle.subsetter_cffdata.specs.Dicts.Dict.{Entry}
use Rattle.subsetter_cff.specs.Write.Laying.Layout.{FontDict, Parts}

-- whether a real is among them whose text has more than 64 characters
abbrev pub any_long : List Number → Bool
any_long [] = false
any_long (x ∷ xs) = is_too_long x || any_long xs

-- of the entries of a private dict
abbrev pub entry_numbers : List Entry → List Number
entry_numbers es = flat_map (λ (e : Entry). e.operands) es

-- of a font dict: its matrix, and its private dict
abbrev pub font_dict_numbers : FontDict → List Number
font_dict_numbers f = f.matrix ++ entry_numbers f.private

-- of all dicts: the matrix and the box of the top dict, then the font dicts
abbrev pub written_numbers : Parts → List Number
written_numbers p = p.matrix ++ (p.box ++ flat_map font_dict_numbers p.font_dicts)
