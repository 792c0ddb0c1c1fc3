use Rattle.std.proofs.Common.{◌<◌, ℕ}
use Rattle.subsetter_cff2.specs.Selection.SelectSearch.{range_numbered, IsInOrder}
use Rattle.subsetter_cff2.proofs.selection.search.are_in_order.Given as goal

abbrev pub invariant-loop-i : goal.invariant-loop-i
invariant-loop-i l = (k : ℕ) → k < l.i → IsInOrder (range_numbered l.bytes l.list.is_wide l.list.at k)
