use Rattle.std.proofs.Common.{◌≡◌, ◌+◌, ◌-◌, ◌*◌}
use Rattle.font_reasons.specs.Names.{lost_from}
use Rattle.font_reasons.proofs.names.first_lost.Given as goal

abbrev pub invariant-loop-record : goal.invariant-loop-record
invariant-loop-record l = lost_from l.name l.storage (l.count - l.record) (6 + 12 * l.record) ≡ lost_from l.name l.storage l.count 6
