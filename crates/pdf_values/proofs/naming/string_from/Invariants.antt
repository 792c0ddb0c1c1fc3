use Rattle.std.proofs.Common.{◌≡◌, ◌+◌, ◌-◌, ◌*◌}
use Rattle.pdf_values.specs.Name.{string_from}
use Rattle.pdf_values.proofs.naming.string_from.Given as goal

abbrev pub invariant-loop-place : goal.invariant-loop-place
invariant-loop-place l = string_from l.kind l.id l.name l.storage (l.count - l.place) (6 + 12 * l.place) ≡ string_from l.kind l.id l.name l.storage l.count 6
