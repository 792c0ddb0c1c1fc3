-- Region indexes that are below a bound, one after the other (OpenType, "Item Variation Store": "regionIndexes").
use Rattle.std.specs.Prelude.{◌≡◌, ℕ, zero, suc, ◌-◌, ◌<◌, nat_lt, if◌then◌else◌, List, length, take, drop, slice_index}
use Rattle.subsetter_base.specs.Bytes.{be}

-- the index that two bytes at a place spell
abbrev pub index_at : List ℕ → ℕ → ℕ
index_at bytes place = be (take 2 (drop place bytes))

-- one more, up to 65535, the most regions that item variation data have
abbrev pub one_more : ℕ → ℕ
one_more n = if nat_lt n 65535 then suc n else 65535

-- how many of the indexes in the last n bytes are before the first that isn't below the bound
abbrev pub run : ℕ → List ℕ → ℕ → ℕ
run bound bytes zero = 0
run bound bytes (suc zero) = 0
run bound bytes (suc (suc left)) =
    if nat_lt (index_at bytes (length bytes - suc (suc left))) bound then one_more (run bound bytes left) else 0

-- the runs of the last 0, 1, 2 .. bytes, n of them
pub record AreRuns (bound : ℕ) (bytes runs : List ℕ) (n : ℕ) : Type 0 where
  pub len : length runs ≡ n
  pub each : (left : ℕ) → left < n → slice_index runs left ≡ run bound bytes left

-- those of all bytes, if there are any
abbrev pub AreRunsIfAny : ℕ → List ℕ → List ℕ → Type 0
AreRunsIfAny bound bytes runs = 0 < length runs → AreRuns bound bytes runs (suc (length bytes))
