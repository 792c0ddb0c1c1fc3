-- Numbers of one byte each (Technical Note 5177, section 3.2 "Charstring Number Encoding").
use Rattle.std.specs.Prelude.{ℕ, ◌≤◌, ◌<◌, ℤ, pos, ◌-ℤ◌, List, ◌++◌, map}
use Rattle.subsetter_cffdata.specs.declared.numerals.charstring_number.CharStringNumber.TheVariants.{Integer}
use Rattle.subsetter_blend.specs.Runs.Number.{in_parts}
use Rattle.subsetter_blend.specs.Runs.Machine.{Registers}

-- a byte that is a number alone
pub record IsSmall (b : ℕ) : Type 0 where
  pub low : 32 ≤ b
  pub high : b < 247

-- the number of a byte from 32 to 246: b - 139, in parts
abbrev pub small : ℕ → ℤ
small b = in_parts (Integer (pos b -ℤ pos 139))

abbrev pub with_small : List ℕ → Registers → Registers
with_small bytes r = record r { operands = r.operands ++ map small bytes }
