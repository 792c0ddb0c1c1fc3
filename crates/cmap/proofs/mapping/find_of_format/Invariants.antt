use Rattle.std.proofs.Common.{◌≡◌, ◌+◌, ◌-◌, ◌*◌}
use Rattle.cmap.specs.Subtable.{table_from}
use Rattle.cmap.proofs.mapping.find_of_format.Given as goal

abbrev pub invariant-loop-record : goal.invariant-loop-record
invariant-loop-record l = table_from l.format l.cmap (l.count - l.record) (4 + 8 * l.record) ≡ table_from l.format l.cmap l.count 4
