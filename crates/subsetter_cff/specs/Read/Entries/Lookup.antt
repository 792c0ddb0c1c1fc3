-- Entries of a DICT by their operator (Technical Note 5176, section 4 "DICT Data").
use Rattle.std.specs.Prelude.{ℕ, List, [], ◌∷◌, Option, Some, None, if◌then◌else◌}
use Rattle.std.specs.Str.{bytes_eq}
use Rattle.subsetter_cffdata.specs.Numerals.Numbers.{Number}
use Rattle.subsetter_cffdata.specs.Dicts.Dict.{Entry}

-- the operands of the last entry of an operator, or what was found before
abbrev pub last_after : Option (List Number) → List ℕ → List Entry → Option (List Number)
last_after found operator [] = found
last_after found operator (e ∷ es) =
    last_after (if bytes_eq e.operator operator then Some e.operands else found) operator es

-- the last entry of an operator counts
abbrev pub last_of : List ℕ → List Entry → Option (List Number)
last_of operator es = last_after None operator es

-- the first one, as for the subroutines of a private dict
abbrev pub first_of : List ℕ → List Entry → Option (List Number)
first_of operator [] = None
first_of operator (e ∷ es) = if bytes_eq e.operator operator then Some e.operands else first_of operator es

-- the entries but those of an operator
abbrev pub without : List ℕ → List Entry → List Entry
without operator [] = []
without operator (e ∷ es) = if bytes_eq e.operator operator then without operator es else e ∷ without operator es
