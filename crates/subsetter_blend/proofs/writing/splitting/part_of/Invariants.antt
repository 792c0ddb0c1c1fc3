use Rattle.std.proofs.Common.{◌≡◌, ◌≤◌, ◌+◌, ◌^◌, ◌++◌, All, take, length, unsigned_abs}
use Rattle.subsetter_blend.proofs.writing.splitting.part_of.Given as goal

abbrev pub invariant-loop-operand : goal.invariant-loop-operand
invariant-loop-operand l = record {
  same : l.part ≡ l.initial.part ++ take l.operand-index l.rest;
  many : length l.part ≡ length l.initial.part + l.operand-index;
  small : All (λ v. unsigned_abs v ≤ 2 ^ 59) l.part;
}
