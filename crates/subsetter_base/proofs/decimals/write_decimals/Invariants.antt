use Rattle.std.proofs.Common.{◌≡◌, ◌++◌, map, decimal, drop}
use Rattle.std.specs.List.{join_with_byte}
use Rattle.subsetter_base.proofs.TextLemmas.{spaced}
use Rattle.subsetter_base.proofs.decimals.write_decimals.Given as goal

abbrev pub invariant-loop-number : goal.invariant-loop-number
invariant-loop-number l = l.text.items ++ spaced (map decimal (drop l.number-index l.rest)) ≡ l.fn.text.items ++ join_with_byte 32 (map decimal l.fn.numbers)
