-- What a function that takes memory returns within a bound on bytes, against a reading on lists.
use Rattle.std.specs.Prelude.{◌≡◌, ◌⊎◌, ◌<◌, ℕ, Bool, false, nat_lt, Option, Some, None, Result, Ok, Err}
use Rattle.subsetter_base.specs.Gives.{Fails}
use Rattle.subsetter_base.specs.declared.error.Error.{Error}
use Rattle.subsetter_base.specs.declared.error.Error.TheVariants.{OverflowError}

-- `size` bytes pass a bound; where none is set none do
abbrev pub is_past : Option ℕ → ℕ → Bool
is_past None size = false
is_past (Some most) size = nat_lt most size

-- a bound is set, and whatever the reading gives is longer
pub record IsTooLong {Y : Type 0} (bound : Option ℕ) (size : Y → ℕ) (read : Result Y Error) : Type 0 where
  pub most : ℕ
  pub is_set : bound ≡ Some most
  pub longer : (y : Y) → read ≡ Ok y → most < size y

-- the reading fails with this error, unless memory ran out or the bound is passed
abbrev pub FailsWithin : {Y : Type 0} → Option ℕ → (Y → ℕ) → Error → Result Y Error → Type 0
FailsWithin bound size e read = Fails e read ⊎ ((e ≡ OverflowError) × IsTooLong bound size read)

-- the result, seen by view, is what the reading gives, unless memory ran out or the bound is passed
abbrev pub GivesWithin : {X Y : Type 0} → (X → Y) → Option ℕ → (Y → ℕ) → Result X Error → Result Y Error → Type 0
GivesWithin view bound size (Ok x) read = read ≡ Ok (view x)
GivesWithin view bound size (Err e) read = FailsWithin bound size e read
