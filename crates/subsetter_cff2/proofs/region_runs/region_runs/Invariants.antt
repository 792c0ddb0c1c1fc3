use Rattle.subsetter_cff2.specs.RegionRuns.{AreRuns}
use Rattle.subsetter_cff2.proofs.region_runs.region_runs.Given as goal

abbrev pub invariant-loop-left : goal.invariant-loop-left
invariant-loop-left l = AreRuns l.bound l.bytes l.runs.items l.left
