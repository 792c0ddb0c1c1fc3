use Rattle.std.proofs.Common.{sym}
use Rattle.font_reasons.proofs.reason.ReasonDisplay.fmt.Goals as goal

pub returns-in-LargeAdvance-clause-writes : goal.returns-in-LargeAdvance-clause-writes
returns-in-LargeAdvance-clause-writes g c = rw c.in-LargeAdvance.is (c.write-in-LargeAdvance.ensures.writes)

pub returns-in-NoIndex-clause-writes : goal.returns-in-NoIndex-clause-writes
returns-in-NoIndex-clause-writes g c = rw c.in-NoIndex.is (rw (sym c.from-in-NoIndex.ensures) (c.write-in-NoIndex.ensures.writes))

pub returns-in-Composed-clause-writes : goal.returns-in-Composed-clause-writes
returns-in-Composed-clause-writes g c = rw c.in-Composed.is (rw (sym c.from-in-Composed.ensures) (c.write-in-Composed.ensures.writes))

pub returns-in-WrongOutline-clause-writes : goal.returns-in-WrongOutline-clause-writes
returns-in-WrongOutline-clause-writes g c = rw c.in-WrongOutline.is (rw (sym c.from-in-WrongOutline.ensures) (c.write-in-WrongOutline.ensures.writes))

pub returns-in-Deep-clause-writes : goal.returns-in-Deep-clause-writes
returns-in-Deep-clause-writes g c = rw c.in-Deep.is (rw (sym c.from-in-Deep.ensures) (c.write-in-Deep.ensures.writes))

pub returns-in-Unvaried-clause-writes : goal.returns-in-Unvaried-clause-writes
returns-in-Unvaried-clause-writes g c = rw c.in-Unvaried.is (c.write-in-Unvaried.ensures.writes)

pub returns-in-TightLimits-clause-writes : goal.returns-in-TightLimits-clause-writes
returns-in-TightLimits-clause-writes g c = rw c.in-TightLimits.is (c.write-in-TightLimits.ensures.writes)
