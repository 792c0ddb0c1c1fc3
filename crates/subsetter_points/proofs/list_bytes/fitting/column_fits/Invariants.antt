use Rattle.std.proofs.Common.{◌≡◌, drop, pos}
use Rattle.std.specs.Prelude.{◌&&◌}
use Rattle.subsetter_points.specs.Simple.{column_of, deltas_fit}
use Rattle.subsetter_points.proofs.list_bytes.fitting.column_fits.Given as goal

abbrev pub invariant-loop-point : goal.invariant-loop-point
invariant-loop-point l = deltas_fit (pos 0) (column_of l.column l.points) ≡ l.fit && deltas_fit l.before (column_of l.column (drop l.point-index l.points))
