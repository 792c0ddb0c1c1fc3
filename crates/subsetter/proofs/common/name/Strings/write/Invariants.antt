use Rattle.std.proofs.Common.{◌≡◌, ◌+◌, ◌≤◌, ◌++◌, drop, length}
use Rattle.std.specs.Prelude.{vec_capacity}
use Rattle.subsetter.specs.Common.Name.Read.{joined}
use Rattle.subsetter.specs.Common.Name.View.{nows}
use Rattle.subsetter.proofs.common.name.Strings.write.Given as goal

abbrev pub invariant-loop-string : goal.invariant-loop-string
invariant-loop-string l = record {
  written : l.out.items ++ joined (nows (drop l.string-index l.string-items)) ≡ l.fn.out.items ++ joined (nows l.string-items);
  room : length l.out.items + length (joined (nows (drop l.string-index l.string-items))) ≤ vec_capacity l.out;
  capacity : vec_capacity l.fn.out ≤ vec_capacity l.out;
}
