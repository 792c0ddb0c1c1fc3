use Rattle.std.proofs.Common.{◌≡◌, ◌≤◌, drop, length}
use Rattle.subsetter.specs.Common.Post.Read.{names_in}
use Rattle.subsetter.proofs.common.post.marks.pass.Given as goal

abbrev pub invariant-loop : goal.invariant-loop
invariant-loop l = record {
  names : names_in (drop l.at l.bytes) ≡ drop l.counter (names_in (drop l.start l.bytes));
  within : l.at ≤ length l.bytes;
}
