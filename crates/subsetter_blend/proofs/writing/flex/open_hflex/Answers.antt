use Rattle.std.proofs.Common.{rules, arith}
use Rattle.subsetter_blend.proofs.WritingLaws.Places.{seen, all_small}
use Rattle.subsetter_blend.proofs.writing.flex.open_hflex.Goals as goal

pub returns-clause-small : goal.returns-clause-small
returns-clause-small c =
    all_small _ _ _ _ _ _ _ _ _ _ _ _ _
    (seen c.operand.result (search rules) (omega (arith, c.operand.ensures.bound))) (omega arith)
    (seen c.operand-2.result (search rules) (omega (arith, c.operand-2.ensures.bound)))
    (seen c.operand-3.result (search rules) (omega (arith, c.operand-3.ensures.bound)))
    (seen c.operand-4.result (search rules) (omega (arith, c.operand-4.ensures.bound))) (omega arith)
    (seen c.operand-5.result (search rules) (omega (arith, c.operand-5.ensures.bound))) (omega arith)
    (seen c.operand-6.result (search rules) (omega (arith, c.operand-6.ensures.bound)))
    (seen c.minus.result (search rules) c.minus.ensures.bound)
    (seen c.operand-8.result (search rules) (omega (arith, c.operand-8.ensures.bound))) (omega arith) (omega arith)
