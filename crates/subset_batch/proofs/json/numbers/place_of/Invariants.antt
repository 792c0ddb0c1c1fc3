use Rattle.std.proofs.Common.{◌≡◌, ◌+◌, ◌≤◌, length}
use Rattle.std.specs.List.{position_or_len}
use Rattle.subset_batch.specs.Numbers.{is_byte}
use Rattle.subset_batch.proofs.json.numbers.place_of.Given as goal

abbrev pub invariant-loop-rest : goal.invariant-loop-rest
invariant-loop-rest l = (position_or_len (is_byte l.byte) l.bytes + length l.rest ≡ length l.bytes + position_or_len (is_byte l.byte) l.rest) × (length l.rest ≤ length l.bytes)

abbrev pub decreases-loop-rest : goal.decreases-loop-rest
decreases-loop-rest l = length l.rest
