use Rattle.subsetter_blend.specs.Writing.Flex.{operand_at}
use Rattle.subsetter_boxes.proofs.CurvePoints.{flex1_gone}
use Rattle.subsetter_boxes.proofs.flexes.flex1.Goals as goal

pub returns-clause-value : goal.returns-clause-value
returns-clause-value c =
    flex1_gone c.args.pen (operand_at c.args.operands.now) c.further-p1.result c.further-p2.result c.further-p3.result c.further-p4.result c.further-p5.result c.end_of_flex1-p6.result c.curves_to.result
    c.further-p1.ensures.value c.further-p2.ensures.value c.further-p3.ensures.value c.further-p4.ensures.value c.further-p5.ensures.value c.end_of_flex1-p6.ensures c.curves_to.ensures.value
