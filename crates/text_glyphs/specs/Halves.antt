-- The search by halves of a number among keys that ascend.
use Rattle.std.specs.Prelude.{ℕ, zero, suc, ◌+◌, ◌-◌, ◌*◌, ◌/◌, ◌==◌, nat_le, nat_lt, min, length, Bool, false}
use Rattle.std.specs.Prelude.{if◌then◌else◌, List, Option, Some, None}
use Rattle.subsetter_base.specs.Bytes.{number}

-- whether a key is at most a number; one that isn't there is above all
abbrev pub is_up_to : ℕ → Option ℕ → Bool
is_up_to c None = false
is_up_to c (Some key) = nat_le key c

-- how many of the keys are at most a number, where those before `low` are and those from `high` on aren't
unfoldable pub halves : (ℕ → Option ℕ) → ℕ → ℕ → ℕ → ℕ → ℕ
halves key c zero low high = low
halves key c (suc steps) low high =
    if nat_lt low high
    then (if is_up_to c (key (low + (high - low) / 2)) then halves key c steps (low + (high - low) / 2 + 1) high
    else halves key c steps low (low + (high - low) / 2))
    else low

-- the keys, of `width` bytes, with which records of `size` bytes each begin, from an offset on
abbrev pub key_at : List ℕ → ℕ → ℕ → ℕ → ℕ → Option ℕ
key_at table at size width k = number table (at + size * k) width

-- the place before place k
abbrev pub before : ℕ → Option ℕ
before k = if k == 0 then None else Some (k - 1)

-- how many of n records are there
abbrev pub records_there : List ℕ → ℕ → ℕ → ℕ → ℕ
records_there table at size n = min ((length table - at) / size) n

-- the place of the last of n records, as far as they are there, whose key is at most a number (32 steps are enough for
-- n below 2 ^ 32)
unfoldable pub last_up_to : List ℕ → ℕ → ℕ → ℕ → ℕ → ℕ → Option ℕ
last_up_to table at size width n c = before (halves (key_at table at size width) c 32 0 (records_there table at size n))
