use Rattle.std.proofs.Common.{◌≡◌, ◌++◌, drop}
use Rattle.subset_task.specs.Faces.Named.{settings_of}
use Rattle.subset_task.proofs.faces.named.settings_of.Given as goal

abbrev pub invariant-loop-axis : goal.invariant-loop-axis
invariant-loop-axis l = l.settings.items ++ settings_of (drop l.axis-index l.axes) l.rest ≡ settings_of l.axes l.bytes
