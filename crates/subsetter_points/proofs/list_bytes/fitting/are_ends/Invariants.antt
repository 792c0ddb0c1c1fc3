use Rattle.std.proofs.Common.{◌≡◌, drop}
use Rattle.subsetter_points.specs.Simple.{are_ends}
use Rattle.subsetter_points.proofs.list_bytes.fitting.are_ends.Given as goal

abbrev pub invariant-loop-end : goal.invariant-loop-end
invariant-loop-end l = are_ends 0 l.ends l.points ≡ are_ends l.from (drop l.end-index l.ends) l.points
