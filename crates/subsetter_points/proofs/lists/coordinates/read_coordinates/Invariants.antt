use Rattle.std.proofs.Common.{◌≡◌, ◌≤◌, length, vec_len, vec_capacity, drop, pos}
use Rattle.subsetter_points.specs.Simple.{coordinates}
use Rattle.subsetter_points.proofs.ReadLemmas.{with_front}
use Rattle.subsetter_points.proofs.lists.coordinates.read_coordinates.Given as goal

abbrev pub invariant-loop-flag : goal.invariant-loop-flag
invariant-loop-flag l = record {
  read : coordinates l.short l.same (pos 0) l.flags l.fn.bytes ≡ with_front l.coordinates.items (coordinates l.short l.same l.before (drop l.flag-index l.flags) l.rest);
  len : vec_len l.coordinates ≡ l.flag-index;
  room : length l.flags ≤ vec_capacity l.coordinates;
}
