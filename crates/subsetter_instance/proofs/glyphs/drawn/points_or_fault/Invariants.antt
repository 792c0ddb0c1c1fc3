use Rattle.std.proofs.Common.{◌≡◌, ◌≤◌, ◌+◌, ◌-◌, drop, length}
use Rattle.std.specs.Vec.{vec_capacity, vec_len}
use Rattle.subsetter_base.proofs.Results.{with_front}
use Rattle.subsetter_instance.specs.Glyphs.Drawn.{points_or_fault}
use Rattle.subsetter_instance.specs.Glyphs.Unfolded.{on_curve}
use Rattle.subsetter_instance.proofs.glyphs.drawn.points_or_fault.Given as goal

abbrev pub invariant-loop-i : goal.invariant-loop-i
invariant-loop-i l = record {
  value : points_or_fault l.left (on_curve l.on) l.xs l.ys ≡ with_front l.points.items (points_or_fault l.left (drop l.i (on_curve l.on)) (drop l.i l.xs) (drop l.i l.ys));
  room : vec_len l.points + (length l.on - l.i) ≤ vec_capacity l.points;
}
