use Rattle.std.proofs.Common.{◌≡◌, ◌≤◌, ◌+◌, ◌-◌, vec_len, vec_capacity}
use Rattle.subsetter_points.specs.Simple.{flags}
use Rattle.subsetter_points.proofs.ReadLemmas.{with_front}
use Rattle.subsetter_points.proofs.lists.flags.read_flags.Given as goal

abbrev pub invariant-loop : goal.invariant-loop
invariant-loop l = record {
  read : flags l.count (record { flag = 0; repeats = 0 }) l.fn.bytes ≡ with_front l.flags.items (flags (l.count - l.counter) l.run l.rest);
  room : vec_len l.flags + (l.count - l.counter) ≤ vec_capacity l.flags;
}
