-- The strings that a dict names (Technical Note 5176, section 10 "String INDEX").
use Rattle.std.specs.Prelude.{ℕ, ◌-◌, nat_lt, if◌then◌else◌, List, Option, Some, None}
use Rattle.std.specs.Option.{option_map}
use Rattle.subsetter_base.specs.Options.{◌>>=◌}
use Rattle.subsetter_cffdata.specs.Numerals.Numbers.{Number}
use Rattle.subsetter_cffdata.specs.Dicts.Dict.{Entry}
use Rattle.subsetter_cffdata.specs.Dicts.Operands.{string_operand}
use Rattle.subsetter_type2.specs.Subroutines.{entry_at}
use Rattle.subsetter_cff.specs.Read.Entries.Lookup.{last_of}

-- a standard string by its number (appendix A "Standard Strings"), or one by its bytes
pub data FontString : Type 0 where
  Standard : ℕ → FontString
  Custom : List ℕ → FontString

-- how many standard strings there are
abbrev pub standard_strings : ℕ
standard_strings = 391

-- numbers below 391 are standard strings, the others entries of the String INDEX; none where that entry is missing or
-- unreadable
unfoldable pub string_of : List (Option (List ℕ)) → ℕ → Option FontString
string_of strings s =
    if nat_lt s standard_strings then Some (Standard s) else option_map Custom (entry_at strings (s - standard_strings))

abbrev pub string_by : List (Option (List ℕ)) → Option (List Number) → Option (Option FontString)
string_by strings None = Some None
string_by strings (Some xs) = string_operand xs >>= λ s. option_map Some (string_of strings s)

-- the string that an operator's entry names, where there is such an entry; None where it names no readable string
abbrev pub string_at : List (Option (List ℕ)) → List ℕ → List Entry → Option (Option FontString)
string_at strings operator es = string_by strings (last_of operator es)
