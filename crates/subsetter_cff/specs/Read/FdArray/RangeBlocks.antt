-- What is known of the ranges of FDSelect in memory.
use Rattle.std.specs.Prelude.{ℕ, List, Option, Some, None}
use Rattle.subsetter_cff.specs.Read.FdArray.Ranges.{Ascend, AreBounds}
use Rattle.subsetter_cff.specs.declared.read.fd_array.ranges.Blocks.{Blocks}

-- they ascend, or have bounds for each block
abbrev pub AreSearchable : List ℕ → ℕ → Option Blocks → Type 0
AreSearchable bytes count None = Ascend bytes count
AreSearchable bytes count (Some b) = AreBounds bytes count b.least b.greatest
