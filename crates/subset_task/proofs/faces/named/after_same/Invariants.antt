use Rattle.std.proofs.Common.{◌≡◌, drop}
use Rattle.subset_task.specs.Faces.Named.{after_same}
use Rattle.subset_task.proofs.faces.named.after_same.Given as goal

abbrev pub invariant-loop-byte : goal.invariant-loop-byte
invariant-loop-byte l = after_same (drop l.byte-index l.text) l.rest ≡ after_same l.text l.name
