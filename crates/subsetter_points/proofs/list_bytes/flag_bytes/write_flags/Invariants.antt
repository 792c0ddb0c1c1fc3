use Rattle.std.proofs.Common.{◌≡◌, ◌≤◌, ◌+◌, ◌++◌, length, drop, pos, true, vec_len, vec_capacity}
use Rattle.std.specs.Prelude.{IsTrue}
use Rattle.subsetter_points.specs.Simple.{flag_bytes, deltas_fit, xs_of, ys_of}
use Rattle.subsetter_points.proofs.list_bytes.flag_bytes.write_flags.Given as goal

abbrev pub invariant-loop-point : goal.invariant-loop-point
invariant-loop-point l = record {
  written : l.fn.out.items ++ flag_bytes true (pos 0) (pos 0) l.points ≡ l.out.items ++ flag_bytes l.overlap l.x l.y (drop l.point-index l.points);
  room : vec_len l.out + length l.points ≤ vec_capacity l.out + l.point-index;
  xs_fit : IsTrue (deltas_fit l.x (xs_of (drop l.point-index l.points)));
  ys_fit : IsTrue (deltas_fit l.y (ys_of (drop l.point-index l.points)));
}
