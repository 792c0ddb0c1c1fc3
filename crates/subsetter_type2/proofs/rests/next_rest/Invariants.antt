use Rattle.std.proofs.Common.{◌≡◌, ◌≤◌, length}
use Rattle.subsetter_type2.specs.Runs.Machine.{unended}
use Rattle.subsetter_type2.specs.View.{rests_of}
use Rattle.subsetter_type2.proofs.rests.next_rest.Given as goal

abbrev pub invariant-loop-rest : goal.invariant-loop-rest
invariant-loop-rest g l = record {
  same : unended (rests_of l.rests) ≡ unended (rests_of l.initial.rests);
  fewer : length l.rests ≤ length l.initial.rests;
}

abbrev pub decreases-loop-rest : goal.decreases-loop-rest
decreases-loop-rest g l = length l.rests
