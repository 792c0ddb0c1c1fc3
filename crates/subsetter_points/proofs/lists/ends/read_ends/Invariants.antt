use Rattle.std.proofs.Common.{◌≡◌, ◌-◌}
use Rattle.subsetter_points.specs.Simple.{ends}
use Rattle.subsetter_points.proofs.ReadLemmas.{with_front}
use Rattle.subsetter_points.proofs.lists.ends.read_ends.Given as goal

abbrev pub invariant-loop : goal.invariant-loop
invariant-loop l = ends l.count 0 l.fn.bytes ≡ with_front l.ends.items (ends (l.count - l.counter) l.from l.rest)
