use Rattle.subsetter_cff2.specs.Selection.SelectSearch.{AreWithin}
use Rattle.subsetter_cff2.proofs.selection.search.bounds_between.Given as goal

abbrev pub invariant-loop-i : goal.invariant-loop-i
invariant-loop-i l = AreWithin l.bytes l.list.is_wide l.list.at l.from l.i l.bounds.least l.bounds.greatest
