use Rattle.std.proofs.Common.{◌≡◌, ◌≤◌, ◌*◌, ◌^◌, ◌+ℤ◌, drop, unsigned_abs}
use Rattle.subsetter_blend.specs.Writing.Split.{sum_of}
use Rattle.subsetter_blend.proofs.writing.splitting.sum.Given as goal

abbrev pub invariant-loop-operand : goal.invariant-loop-operand
invariant-loop-operand l = record {
  same : l.sum +ℤ sum_of (drop l.operand-index l.operands) ≡ sum_of l.operands;
  bound : unsigned_abs l.sum ≤ l.operand-index * 2 ^ 48;
}
