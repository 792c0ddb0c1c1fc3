use Rattle.std.proofs.Common.{◌<◌, ℕ}
use Rattle.subsetter_cff2.specs.Selection.SelectSearch.{range_numbered, IsThere}
use Rattle.subsetter_cff2.proofs.selection.search.count_there.Given as goal

abbrev pub invariant-loop-i : goal.invariant-loop-i
invariant-loop-i l = (k : ℕ) → k < l.i → IsThere (range_numbered l.bytes l.list.is_wide l.list.at k)
