-- What numbers and entries are that were read of a DICT, whatever its bytes.
use Rattle.std.proofs.Common.{◌≤◌, List, [], ◌∷◌, length, FitsSigned}
use Rattle.std.specs.Int.{w32}
use Rattle.std.specs.List.{AllByRecursion}
use Rattle.subsetter_cffdata.specs.Numerals.Numbers.{Number, Integer, Real, Fixed}
use Rattle.subsetter_cffdata.specs.Dicts.Dict.{Entry, IsOperator, operand_limit}
use Rattle.subsetter_cffdata.specs.Numerals.ReadNumbers.{IsBounded}
use Rattle.subsetter_cff.proofs.ReadLaws.EntriesLaws.Plains.{PlainDecimal}

-- a number that can be written, unless its text is too long
abbrev pub IsWritable : Number → Type 0
IsWritable (Integer z) = FitsSigned w32 z
IsWritable (Real d) = PlainDecimal d
IsWritable (Fixed k) = ⊥

-- a number that was read
pub record FitsNumber (x : Number) : Type 0 where
  pub writable : IsWritable x
  pub bounded : IsBounded x

pub all_writable : (xs : List Number) → AllByRecursion FitsNumber xs → AllByRecursion IsWritable xs
all_writable [] all = tt
all_writable (x ∷ xs) all = (all.0.writable, all_writable xs all.1)

-- an entry that can be written again, unless a real of it is too long
pub record FitsEntry (e : Entry) : Type 0 where
  pub operator : IsOperator e.operator
  pub operands : AllByRecursion FitsNumber e.operands
  pub few : length e.operands ≤ operand_limit
