use Rattle.std.proofs.Common.{◌≡◌, ◌≤◌, ◌+◌, ◌*◌, ◌++◌, length, drop, pos, vec_len, vec_capacity}
use Rattle.std.specs.Prelude.{IsTrue}
use Rattle.subsetter_points.specs.Simple.{column_of, delta_bytes, deltas_fit}
use Rattle.subsetter_points.proofs.list_bytes.delta_bytes.write_deltas.Given as goal

abbrev pub invariant-loop-point : goal.invariant-loop-point
invariant-loop-point l = record {
  written : l.fn.out.items ++ delta_bytes (pos 0) (column_of l.column l.points) ≡ l.out.items ++ delta_bytes l.before (column_of l.column (drop l.point-index l.points));
  room : vec_len l.out + 2 * length l.points ≤ vec_capacity l.out + 2 * l.point-index;
  fit : IsTrue (deltas_fit l.before (column_of l.column (drop l.point-index l.points)));
}
