-- Groups that ascend, and those of a table that are there.
use Rattle.std.specs.Prelude.{◌≡◌, ℕ, ◌+◌, ◌*◌, ◌<◌, ◌≤◌, List, length, None}
use Rattle.subsetter_base.specs.Bytes.{range}
use Rattle.cmap.specs.Groups.{group_at}

-- of n groups the table has only the first `there`; the next one is cut
pub record AreThere (table : List ℕ) (n there : ℕ) : Type 0 where
  pub few : there ≤ n
  pub room : (k : ℕ) → k < there → 16 + 12 * k + 12 ≤ length table
  pub cut : there < n → range table (16 + 12 * there) 12 ≡ None

-- their starts and their ends ascend
pub record AreAscending (table : List ℕ) (there : ℕ) : Type 0 where
  pub starts : (j k : ℕ) → j ≤ k → k < there → (group_at table j).start ≤ (group_at table k).start
  pub ends : (j k : ℕ) → j ≤ k → k < there → (group_at table j).end ≤ (group_at table k).end
