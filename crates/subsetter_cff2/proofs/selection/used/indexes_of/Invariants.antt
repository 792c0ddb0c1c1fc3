use Rattle.std.proofs.Common.{◌≡◌, ◌++◌, drop, map}
use Rattle.subsetter_cff2.specs.Selection.UsedDicts.{index_in}
use Rattle.subsetter_cff2.proofs.selection.used.indexes_of.Given as goal

abbrev pub invariant-loop-number : goal.invariant-loop-number
invariant-loop-number l = l.places.items ++ map (index_in l.used) (drop l.number-index l.numbers) ≡ map (index_in l.used) l.numbers
