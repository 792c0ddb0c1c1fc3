-- How an operand names a subroutine (Technical Note 5177, section 4.7 "Subroutine Operators").
use Rattle.std.specs.Prelude.{ℕ, ℤ, pos, ◌+ℤ◌, List, Option, nat_lt, if◌then◌else◌, length, slice_get}
use Rattle.std.specs.Option.{option_and_then}
use Rattle.subsetter_cffdata.specs.Numerals.Numbers.{not_negative}

-- what is added to an operand, by how many subroutines the INDEX holds, readable or not
abbrev pub bias_of : ℕ → ℕ
bias_of count = if nat_lt count 1240 then 107 else if nat_lt count 33900 then 1131 else 32768

-- the entry at this place; none where there is none, or it is unreadable
abbrev pub entry_at : List (Option (List ℕ)) → ℕ → Option (List ℕ)
entry_at entries place = option_and_then (λ entry. entry) (slice_get entries place)

-- the subroutine that a whole operand names
unfoldable pub biased_entry : List (Option (List ℕ)) → ℤ → Option (List ℕ)
biased_entry entries number =
    option_and_then (entry_at entries) (not_negative (number +ℤ pos (bias_of (length entries))))
