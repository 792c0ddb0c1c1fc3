use Rattle.subsetter_blend.specs.Writing.Flex.{operand_at}
use Rattle.subsetter_boxes.proofs.CurvePoints.{hflex1_gone}
use Rattle.subsetter_boxes.proofs.flexes.hflex1.Goals as goal

pub returns-clause-value : goal.returns-clause-value
returns-clause-value c =
    hflex1_gone c.args.pen (operand_at c.args.operands.now) c.further-p1.result c.further-p2.result c.level-p3.result c.level-p4.result c.further-p5.result c.level_end-p6.result c.curves_to.result
    c.further-p1.ensures.value c.further-p2.ensures.value c.level-p3.ensures.value c.level-p4.ensures.value c.further-p5.ensures.value c.level_end-p6.ensures.value c.curves_to.ensures.value
