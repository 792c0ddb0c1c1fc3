use Rattle.std.proofs.Common.{◌≡◌, map, ◌++◌, drop}
use Rattle.std.specs.List.{concat}
use Rattle.subsetter_cffdata.proofs.indexes.writing_index.put_items.Given as goal

abbrev pub invariant-loop-item : goal.invariant-loop-item
invariant-loop-item g l = l.w ++ concat (map g.T.AsSlice.items (drop l.item-index l.items)) ≡ l.initial.w ++ concat (map g.T.AsSlice.items l.items)
