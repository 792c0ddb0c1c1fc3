-- The strikes of a table of bitmaps, of which the first 1,024 are looked at.
use Rattle.std.specs.Prelude.{ℕ, zero, suc, ◌+◌, nat_lt, Bool, true, false, if◌then◌else◌, List}
use Rattle.std.specs.Option.{option_map_or}
use Rattle.subsetter_base.specs.Bytes.{number}

-- whether one of the next n strikes, from strike k on, has a picture
unfoldable pub any_from : (ℕ → Bool) → ℕ → ℕ → Bool
any_from has zero k = false
any_from has (suc n) k = if has k then true else any_from has n (k + 1)

abbrev pub most : ℕ → ℕ
most n = if nat_lt n 1024 then n else 1024

-- how many strikes there are is at byte 4
abbrev pub any_strike : (ℕ → Bool) → List ℕ → Bool
any_strike has table = option_map_or (λ n. any_from has (most n) 0) (number table 4 4) false
