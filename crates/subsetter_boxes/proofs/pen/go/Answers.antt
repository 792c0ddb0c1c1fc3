use Rattle.std.proofs.Common.{arith}
use Rattle.std.proofs.lemmas.Int.{ints}
use Rattle.subsetter_boxes.proofs.Walks.{point_is, there_is}
use Rattle.subsetter_boxes.proofs.pen.go.Goals as goal

pub returns-clause-value : goal.returns-clause-value
returns-clause-value c = point_is _ _ _ _ c.args.pen c.visit.result c.visit.ensures.value (omega (arith, ints)) (omega (arith, ints))

pub returns-clause-at : goal.returns-clause-at
returns-clause-at c = there_is _ _ _ _ c.visit.result c.visit.ensures.at (omega (arith, ints)) (omega (arith, ints))
