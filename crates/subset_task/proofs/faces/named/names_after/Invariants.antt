use Rattle.std.proofs.Common.{◌≡◌, ◌++◌, map, drop}
use Rattle.subset_task.specs.Faces.Named.{names_after}
use Rattle.subset_task.proofs.faces.named.names_after.Given as goal

abbrev pub invariant-loop-bytes : goal.invariant-loop-bytes
invariant-loop-bytes l = l.text.items ++ names_after l.before l.names (map (λ b. b.now) (drop l.bytes-index l.records)) ≡ names_after l.front l.names (map (λ b. b.now) l.records)
