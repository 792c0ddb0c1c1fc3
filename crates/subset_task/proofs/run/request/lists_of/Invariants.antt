use Rattle.std.proofs.Common.{take}
use Rattle.subset_task.specs.Chosen.{AreListsFor}
use Rattle.subset_task.proofs.run.request.lists_of.Given as goal

abbrev pub invariant-loop-place : goal.invariant-loop-place
invariant-loop-place g l = AreListsFor (take l.place l.glyphs) l.lists.items
