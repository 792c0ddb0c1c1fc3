-- What holds of each number that was read of a DICT, whatever its bytes.
use Rattle.std.specs.Prelude.{◌≤◌, ℕ, ℤ, FitsSigned, unsigned_abs}
use Rattle.std.specs.Int.{w32}
use Rattle.std.specs.List.{AllByRecursion}
use Rattle.subsetter_cffdata.specs.Numerals.Numbers.{Number, Integer, Real, Fixed}
use Rattle.subsetter_cffdata.specs.Dicts.Dict.{Entry}

-- an integer of at most so great a size
abbrev pub Within : ℕ → ℤ → Type 0
Within n z = unsigned_abs z ≤ n

-- An integer fits in 32 bits. The power of ten of a real comes from an exponent of at most 999, at most 64 digits after
-- the point and at most 64 zeros at the end.
abbrev pub IsBounded : Number → Type 0
IsBounded (Integer z) = FitsSigned w32 z
IsBounded (Real d) = Within 1127 d.power
IsBounded (Fixed k) = ⊥

abbrev pub HasBounded : Entry → Type 0
HasBounded e = AllByRecursion IsBounded e.operands
