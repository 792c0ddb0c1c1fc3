use Rattle.std.proofs.Common.{◌+◌, ◌≤◌, ◌<◌, ℕ}
use Rattle.subsetter_cff.specs.Read.FdArray.Ranges.{first_of_range}
use Rattle.subsetter_cff.proofs.read.fd_array.ranges.ascend.Given as goal

abbrev pub invariant-loop-i : goal.invariant-loop-i
invariant-loop-i l = (k : ℕ) → k < l.i → first_of_range l.bytes k ≤ first_of_range l.bytes (k + 1)
