-- Places that are passed over.
use Rattle.std.specs.Prelude.{ℕ, ◌<◌, ◌≤◌, List, length, slice_index}

-- each place leads on to one that isn't before it, and all from it up to there are passed over
pub record IsLeading (next : List ℕ) : Type 0 where
  pub inside : (p : ℕ) → p < length next → slice_index next p < length next
  pub onward : (p : ℕ) → p < length next → p ≤ slice_index next p
  pub passed : (p q : ℕ) → p < length next → p ≤ q → q < slice_index next p → q < slice_index next q
