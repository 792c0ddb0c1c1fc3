-- What the definitions mean, in other words.
use Rattle.std.specs.Prelude.{◌≡◌, ℕ, zero, suc, ◌<◌, ◌≤◌, ◌^◌, true, if◌then◌else◌, List, Option, Some, None}
use Rattle.text_glyphs.specs.Halves.{is_up_to, key_at, last_up_to, records_there}

-- n keys ascend: where one is at most a number, those before it are
pub record DoAscend (key : ℕ → Option ℕ) (n : ℕ) : Type 0 where
  pub order : (c j k : ℕ) → j ≤ k → k < n → is_up_to c (key k) ≡ true → is_up_to c (key j) ≡ true

-- the place of the last of n keys that is at most a number
abbrev pub last_of : (ℕ → Option ℕ) → ℕ → ℕ → Option ℕ
last_of key zero c = None
last_of key (suc n) c = if is_up_to c (key n) then Some n else last_of key n c

-- the search by halves finds it among fewer than 2 ^ 32 records whose keys ascend
abbrev pub LastIsFound : Type 0
LastIsFound =
    (table : List ℕ) (at size width n c : ℕ) → n < 2 ^ 32
    → DoAscend (key_at table at size width) (records_there table at size n)
    → last_up_to table at size width n c ≡ last_of (key_at table at size width) (records_there table at size n) c
