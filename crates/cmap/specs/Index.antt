-- An index of a table of format 4, by which the first segment whose end isn't below a character is found by halves.
use Rattle.std.specs.Prelude.{◌≡◌, ℕ, ◌<◌, ◌≤◌, List, length, slice_index, None}
use Rattle.cmap.specs.Segments.{by_segments, in_segment}

-- Numbers that ascend, one for each of the first segments of n: the first one that isn't below a character is that of
-- the segment which has it, and where all are below it no segment has it.
pub record IsIndex (table : List ℕ) (n : ℕ) (tops : List ℕ) : Type 0 where
  pub few : length tops ≤ n
  pub ascends : (j k : ℕ) → j ≤ k → k < length tops → slice_index tops j ≤ slice_index tops k
  pub found : (c k : ℕ) → k < length tops → c ≤ slice_index tops k → ((j : ℕ) → j < k → slice_index tops j < c)
      → by_segments table n n 0 c ≡ in_segment table n k c
  pub none : (c : ℕ) → ((j : ℕ) → j < length tops → slice_index tops j < c) → by_segments table n n 0 c ≡ None
