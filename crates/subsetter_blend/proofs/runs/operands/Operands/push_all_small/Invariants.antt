use Rattle.std.proofs.Common.{◌≡◌, ◌++◌, All, map, take}
use Rattle.subsetter_blend.specs.Runs.Small.{IsSmall, small}
use Rattle.subsetter_blend.proofs.runs.operands.Operands.push_all_small.Given as goal

abbrev pub invariant-loop-count : goal.invariant-loop-count
invariant-loop-count l = record {
  pushed : l.self ≡ l.initial.self ++ map small (take l.count l.bytes);
  small : All IsSmall (take l.count l.bytes);
}
