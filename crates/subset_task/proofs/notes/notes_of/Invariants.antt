use Rattle.std.proofs.Common.{◌≡◌, ◌++◌, drop}
use Rattle.subset_task.specs.Notes.{notes_of}
use Rattle.subset_task.proofs.notes.notes_of.Given as goal

abbrev pub invariant-loop-setting : goal.invariant-loop-setting
invariant-loop-setting l = l.notes.items ++ notes_of l.axes (drop l.setting-index l.at) ≡ notes_of l.axes l.at
