use Rattle.std.proofs.Common.{◌≡◌, ◌+◌, ◌%◌, ◌^◌, length}
use Rattle.subsetter_sfnt.specs.Laying.Weights.{weighed}
use Rattle.subsetter_sfnt.proofs.laying.checksum.add_words.Given as goal

abbrev pub invariant-loop-rest : goal.invariant-loop-rest
invariant-loop-rest l = (l.sum + weighed 0 l.rest) % 2 ^ 32 ≡ (l.start + weighed 0 l.bytes) % 2 ^ 32

abbrev pub decreases-loop-rest : goal.decreases-loop-rest
decreases-loop-rest l = length l.rest
