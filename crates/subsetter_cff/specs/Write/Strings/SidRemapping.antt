-- New numbers of strings: from 391 on, in the order of first use.
use Rattle.std.specs.Prelude.{ℕ, ◌+◌, nat_lt, ◌==◌, if◌then◌else◌, List, [], ◌∷◌, ◌++◌, Option, Some, None, is_some}
use Rattle.std.specs.Prelude.{unwrap_or}
use Rattle.std.specs.Option.{option_map}
use Rattle.std.specs.Str.{bytes_eq}
use Rattle.subsetter_base.specs.Remap.{index_by, with_value}
use Rattle.subsetter_cff.specs.declared.read.string_names.StringName.{StringName}
use Rattle.subsetter_cff.specs.declared.read.string_names.StringName.TheVariants as names
use Rattle.subsetter_cff.specs.Read.Strings.{FontString, Standard, Custom, standard_strings, string_of}

-- the strings that have a new number, and old numbers with their new ones
pub record Remapped : Type 0 where
  pub texts : List (List ℕ)
  pub known : List (ℕ × ℕ)

-- the new number of a string
abbrev pub number_in : List (List ℕ) → List ℕ → Option ℕ
number_in texts s = option_map (λ i. standard_strings + i) (index_by bytes_eq texts s)

abbrev pub known_number : List (ℕ × ℕ) → ℕ → Option ℕ
known_number [] old = None
known_number (pair ∷ pairs) old = if pair.0 == old then Some pair.1 else known_number pairs old

-- a standard string keeps its number
abbrev pub new_number : List (ℕ × ℕ) → ℕ → Option ℕ
new_number pairs old = if nat_lt old standard_strings then Some old else known_number pairs old

-- an old number that is unknown is noted with that of its string, which goes last if it is unknown
abbrev pub with_old : Remapped → ℕ → List ℕ → Remapped
with_old r old s =
    if is_some (new_number r.known old) then r
    else record {
      texts = with_value bytes_eq r.texts s;
      known = r.known ++ (old, unwrap_or (number_in (with_value bytes_eq r.texts s) s) 0) ∷ [];
    }

-- the string of a number, where there is a number; None where it can't be read
abbrev pub named : List (Option (List ℕ)) → Option ℕ → Option (Option FontString)
named strings None = Some None
named strings (Some s) = option_map Some (string_of strings s)

abbrev pub name_of : StringName → FontString
name_of (names.Standard n) = Standard n.0
name_of (names.Custom s) = Custom s.now
