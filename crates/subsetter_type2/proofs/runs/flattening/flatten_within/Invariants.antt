use Rattle.std.proofs.Common.{◌<◌, ◌∷◌, length}
use Rattle.subsetter_type2.specs.Runs.Machine.{outcome}
use Rattle.subsetter_type2.specs.Runs.Following.{ReachedAfter}
use Rattle.subsetter_type2.specs.View.{rests_of}
use Rattle.subsetter_type2.specs.Runs.MachineView.{registers_of, library_of}
use Rattle.subsetter_type2.proofs.runs.flattening.flatten_within.Given as goal

abbrev pub invariant-loop-current : goal.invariant-loop-current
invariant-loop-current g l =
    let library = library_of l.subroutines in
    record {
      reached : ReachedAfter l.fn.bytes.items (outcome library l.limits.tokens l.limits.depth l.charstring) library l.limits.depth l.tokens
          (record { rests = l.running ∷ rests_of l.rests; registers = registers_of (λ w. w) l.machine }) l.machine.output.settled;
      room : length l.rests < l.limits.depth;
    }

abbrev pub decreases-loop-current : goal.decreases-loop-current
decreases-loop-current g l = l.tokens
