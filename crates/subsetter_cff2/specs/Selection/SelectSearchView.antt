-- What is known of a list of ranges in memory.
use Rattle.std.specs.Prelude.{ℕ, ◌≤◌, ◌*◌, ◌^◌, List, Option, Some, None}
use Rattle.subsetter_cff2.specs.Selection.SelectSearch.{AreBounds, AreInOrder, AreThere, IsByRanges}
use Rattle.subsetter_cff2.specs.declared.selection.search.Blocks.{Blocks}
use Rattle.subsetter_cff2.specs.declared.selection.search.RangeList.{RangeList}

pub record IsRangeList (bytes : List ℕ) (select : Option ℕ) (l : RangeList) : Type 0 where
  pub by_ranges : IsByRanges bytes select l.is_wide l.at l.count
  pub small : l.at ≤ 2 ^ 58

-- a list whose ranges are all there
pub record IsWholeList (bytes : List ℕ) (select : Option ℕ) (l : RangeList) : Type 0 where
  pub list : IsRangeList bytes select l
  pub there : AreThere bytes l.is_wide l.at l.count

-- blocks that all ranges are in, within their bounds
pub record AreBlocks (bytes : List ℕ) (l : RangeList) (b : Blocks) : Type 0 where
  pub all : l.count ≤ 256 * b.size
  pub bounds : AreBounds bytes l.is_wide l.at l.count b.size b.least b.greatest

-- the ranges are in order, or in blocks
abbrev pub AreKnown : List ℕ → RangeList → Option Blocks → Type 0
AreKnown bytes l None = AreInOrder bytes l.is_wide l.at l.count
AreKnown bytes l (Some b) = AreBlocks bytes l b

abbrev pub IsSearchableIf : List ℕ → Option ℕ → Option RangeList → Option Blocks → Type 0
IsSearchableIf bytes select None blocks = Unit {0}
IsSearchableIf bytes select (Some l) blocks = IsWholeList bytes select l × AreKnown bytes l blocks
