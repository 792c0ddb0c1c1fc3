-- What entries of local subroutines say: their offset (Technical Note 5176, section 16 "Local/Global Subrs INDEXes").
use Rattle.std.specs.Prelude.{ℕ, Option, Some, None, if◌then◌else◌}
use Rattle.std.specs.Option.{option_and_then}
use Rattle.std.specs.Str.{bytes_eq}
use Rattle.subsetter_cffdata.specs.Numerals.Numbers.{as_u32}
use Rattle.subsetter_cff.specs.Read.Entries.FirstEntries.{Saying}
use Rattle.subsetter_cff.specs.Read.Entries.Operators.{subroutines_operator}

-- with wrong operands none
abbrev pub subr_saying : Saying
subr_saying operator operand =
    if bytes_eq operator subroutines_operator then Some (option_and_then as_u32 operand) else None

-- the offset that is said, if one is
abbrev pub joined : Option (Option ℕ) → Option ℕ
joined said = option_and_then (λ offset. offset) said
