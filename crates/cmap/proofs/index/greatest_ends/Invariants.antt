use Rattle.cmap.proofs.IndexSteps.{IsRunning}
use Rattle.cmap.proofs.index.greatest_ends.Given as goal

abbrev pub invariant-loop-segment : goal.invariant-loop-segment
invariant-loop-segment l = IsRunning l.table l.count l.segment l.tops.items l.top
