-- The checksum by the weights of the bytes, so that bytes can be summed part by part.
use Rattle.std.specs.Prelude.{◌≡◌, ℕ, ◌+◌, ◌-◌, ◌*◌, ◌%◌, ◌^◌, ◌≤◌, List, [], ◌∷◌, length, take}

-- what the bytes from a place on add: each counts by its place in its word of four bytes
abbrev pub weighed : ℕ → List ℕ → ℕ
weighed at [] = 0
weighed at (b ∷ bytes) = b * 256 ^ (3 - at % 4) + weighed (at + 1) bytes

-- the sum of the first bytes, which are whole words
pub record IsSummed (bytes : List ℕ) (value done : ℕ) : Type 0 where
  pub within : done ≤ length bytes
  pub whole : done % 4 ≡ 0
  pub value_is : value ≡ weighed 0 (take done bytes) % 2 ^ 32
