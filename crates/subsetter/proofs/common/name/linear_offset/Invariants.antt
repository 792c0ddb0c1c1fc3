use Rattle.std.proofs.Common.{◌≡◌, ◌+◌, cond, drop, length, Some, None}
use Rattle.subsetter.specs.Common.Name.Read.{among, string_offset, joined}
use Rattle.subsetter.specs.Common.Name.View.{nows}
use Rattle.subsetter.proofs.common.name.linear_offset.Given as goal

abbrev pub invariant-loop-known : goal.invariant-loop-known
invariant-loop-known l = record {
  rest : cond (among (nows (drop l.known-index l.strings)) l.string) (Some (l.place + string_offset (nows (drop l.known-index l.strings)) l.string)) None ≡ cond (among (nows l.strings) l.string) (Some (string_offset (nows l.strings) l.string)) None;
  size : l.place + length (joined (nows (drop l.known-index l.strings))) ≡ length (joined (nows l.strings));
}
