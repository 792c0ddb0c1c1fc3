use Rattle.std.proofs.Common.{◌≡◌, ◌-◌, ◌≤◌, length, drop}
use Rattle.subset_args.specs.Halves.{halves_after}
use Rattle.subset_args.proofs.coordinates.halves_after.Given as goal

abbrev pub invariant-loop-i : goal.invariant-loop-i
invariant-loop-i l = record {
  value : l.halves ≡ halves_after (drop (length l.digits - l.i) l.digits);
  bound : l.halves.count ≤ 3014656;
}
