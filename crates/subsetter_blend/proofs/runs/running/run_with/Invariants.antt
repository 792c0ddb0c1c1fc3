use Rattle.std.proofs.Common.{◌≡◌, ◌<◌, ◌∷◌, length}
use Rattle.subsetter_type2.specs.View.{rests_of}
use Rattle.subsetter_blend.specs.Runs.Machine.{run, run_all}
use Rattle.subsetter_blend.specs.Runs.MachineView.{registers_of, setting_of}
use Rattle.subsetter_blend.proofs.runs.running.run_with.Given as goal

abbrev pub invariant-loop-current : goal.invariant-loop-current
invariant-loop-current g l =
    let setting = setting_of l.subroutines (g.R.Regions.scalars l.regions) in
    record {
      same : run_all g.S.Takes.taken setting l.limits.tokens l.limits.depth l.data_index l.charstring l.fn.sink
          ≡ run g.S.Takes.taken setting l.limits.depth l.tokens l.sink (record { rests = l.running ∷ rests_of l.rests; registers = registers_of l.machine });
      room : length l.rests < l.limits.depth;
    }

abbrev pub decreases-loop-current : goal.decreases-loop-current
decreases-loop-current g l = l.tokens
