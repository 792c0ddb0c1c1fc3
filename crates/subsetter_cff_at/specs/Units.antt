-- The FontMatrix of a font whose top dict has none: 1/unitsPerEm 0 0 1/unitsPerEm 0 0 (OpenType, "head"; Technical Note
-- 5176, section 9).
use Rattle.std.specs.Prelude.{ℕ, ◌+◌, ◌*◌, ◌/◌, ◌%◌, ◌==◌, if◌then◌else◌, List, [], ◌∷◌, ◌++◌, Option, Some, None}
use Rattle.subsetter_cffdata.specs.Dicts.Dict.{entries}
use Rattle.subsetter_cffdata.specs.Numerals.Numbers.{Number}
use Rattle.subsetter_cff.specs.Read.Entries.Lookup.{last_of}
use Rattle.subsetter_cff.specs.Read.Entries.Operators.{font_matrix_operator}
use Rattle.subsetter_cff2.specs.Cff2.{Cff2}
use Rattle.subsetter_cff2.specs.Made2.{optional_matrix}

-- 1/unitsPerEm in parts of 10^14, to the nearest; 0.001 where there are no units
abbrev pub parts_of_unit : ℕ → ℕ
parts_of_unit units = if units == 0 then 100000000000 else (100000000000000 + units / 2) / units

-- two digits as two halves of a byte
abbrev pub two_digits : ℕ → ℕ
two_digits n = n / 10 * 16 + n % 10

-- a real of a DICT: one digit, the point, which is 10, and fourteen digits ("DICT Data", table 5)
abbrev pub unit_real : ℕ → List ℕ
unit_real n =
    30 ∷ (n / 100000000000000 * 16 + 10)
    ∷ two_digits (n / 1000000000000 % 100) ∷ two_digits (n / 10000000000 % 100) ∷ two_digits (n / 100000000 % 100)
    ∷ two_digits (n / 1000000 % 100)
    ∷ two_digits (n / 10000 % 100) ∷ two_digits (n / 100 % 100) ∷ two_digits (n % 100) ∷ 255 ∷ []

-- a dict with FontMatrix alone; 139 is the number 0
unfoldable pub units_dict : ℕ → List ℕ
units_dict units =
    unit_real (parts_of_unit units) ++ (139 ∷ 139 ∷ unit_real (parts_of_unit units) ++ (139 ∷ 139 ∷ 12 ∷ 7 ∷ []))

-- FontMatrix of a dict, or by the units where it has none; none where it isn't six numbers
abbrev pub matrix_or : Option (Option (List Number)) → ℕ → Option (Option (List Number))
matrix_or None units = None
matrix_or (Some None) units = optional_matrix (last_of font_matrix_operator (entries (units_dict units)))
matrix_or (Some (Some matrix)) units = Some (Some matrix)

unfoldable pub top_matrix : Cff2 → ℕ → Option (Option (List Number))
top_matrix cff units = matrix_or (optional_matrix (last_of font_matrix_operator cff.top)) units
