-- Parts of an entry, as it is read token by token.
use Rattle.std.specs.Prelude.{ℕ, List, ◌++◌, Option, Some}
use Rattle.std.specs.Option.{option_map}
use Rattle.subsetter_base.specs.Options.{◌>>=◌}
use Rattle.subsetter_cffdata.specs.Numerals.Numbers.{Number}
use Rattle.subsetter_cffdata.specs.Dicts.Dict.{Entry}

-- of an entry, the operator and what follows
abbrev pub operator_part : Option (Entry × List ℕ) → Option (List ℕ × List ℕ)
operator_part o = option_map (λ e. (e.0.operator, e.1)) o

-- an entry with more operands in front
abbrev pub with_operands : List Number → Option (Entry × List ℕ) → Option (Entry × List ℕ)
with_operands front o = o >>= λ e. Some (record { operator = e.0.operator; operands = front ++ e.0.operands }, e.1)
