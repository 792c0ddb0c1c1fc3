use Rattle.std.proofs.Common.{◌≡◌, drop}
use Rattle.std.specs.List.{fold}
use Rattle.subsetter_points.specs.Bounds.{with_point, box_around}
use Rattle.subsetter_points.proofs.bounds.box_around.Given as goal

abbrev pub invariant-loop-point : goal.invariant-loop-point
invariant-loop-point l = box_around l.fn.first l.rest ≡ fold with_point l.bounds (drop l.point-index l.rest)
