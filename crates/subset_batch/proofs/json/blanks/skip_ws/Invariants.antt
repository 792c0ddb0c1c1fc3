use Rattle.std.proofs.Common.{◌≡◌, length}
use Rattle.subset_batch.specs.Bytes.{skip_ws}
use Rattle.subset_batch.proofs.json.blanks.skip_ws.Given as goal

abbrev pub invariant-loop-rest : goal.invariant-loop-rest
invariant-loop-rest l = skip_ws l.rest ≡ skip_ws l.bytes

abbrev pub decreases-loop-rest : goal.decreases-loop-rest
decreases-loop-rest l = length l.rest
