use Rattle.std.proofs.Common.{◌≡◌, ◌+◌, ◌≤◌, length}
use Rattle.std.specs.List.{position_or_len}
use Rattle.subset_batch.specs.Bytes.{ends_word}
use Rattle.subset_batch.proofs.json.blanks.word_len.Given as goal

abbrev pub invariant-loop-rest : goal.invariant-loop-rest
invariant-loop-rest l = (position_or_len ends_word l.bytes + length l.rest ≡ length l.bytes + position_or_len ends_word l.rest) × (length l.rest ≤ length l.bytes)

abbrev pub decreases-loop-rest : goal.decreases-loop-rest
decreases-loop-rest l = length l.rest
