use Rattle.std.proofs.Common.{◌≡◌, drop}
use Rattle.subsetter_base.specs.Indexes.{index_of}
use Rattle.subsetter_cff2.proofs.SelectionLaws.UsedLaws.{from}
use Rattle.subsetter_cff2.proofs.selection.used.index_of.Given as goal

abbrev pub invariant-loop-i : goal.invariant-loop-i
invariant-loop-i l = from l.i (index_of (drop l.i l.used) l.number) ≡ index_of l.used l.number
