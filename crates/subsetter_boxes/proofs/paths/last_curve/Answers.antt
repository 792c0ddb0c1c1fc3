use Rattle.std.proofs.Common.{arith, FitsSigned, w64, get_or, pos, rules}
use Rattle.std.proofs.lemmas.Int.{to_z-of_z}
use Rattle.subsetter_boxes.proofs.Operands.{operand}
use Rattle.subsetter_boxes.proofs.Turns.{alternating_five}
use Rattle.subsetter_boxes.proofs.paths.last_curve.Goals as goal

pub returns-in-len5-clause-value : goal.returns-in-len5-clause-value
returns-in-len5-clause-value c =
    let f0 : FitsSigned w64 (get_or c.args.operands.now 0 (pos 0)) = search rules in
    let f1 : FitsSigned w64 (get_or c.args.operands.now 1 (pos 0)) = search rules in
    let f2 : FitsSigned w64 (get_or c.args.operands.now 2 (pos 0)) = search rules in
    let f3 : FitsSigned w64 (get_or c.args.operands.now 3 (pos 0)) = search rules in
    let f4 : FitsSigned w64 (get_or c.args.operands.now 4 (pos 0)) = search rules in
    alternating_five c.args.vertical c.args.pen c.args.operands.now c.alternating_curve.result c.requires.five (simp to_z-of_z at c.alternating_curve.ensures.value)

pub alternating_curve-requires-clause-da : goal.alternating_curve-requires-clause-da
alternating_curve-requires-clause-da c = operand c.args.operands.now 0 c.requires.within (omega (arith, c.requires.five))

pub alternating_curve-requires-clause-dxb : goal.alternating_curve-requires-clause-dxb
alternating_curve-requires-clause-dxb c = operand c.args.operands.now 1 c.requires.within (omega (arith, c.requires.five))

pub alternating_curve-requires-clause-dyb : goal.alternating_curve-requires-clause-dyb
alternating_curve-requires-clause-dyb c = operand c.args.operands.now 2 c.requires.within (omega (arith, c.requires.five))

pub alternating_curve-requires-clause-dc : goal.alternating_curve-requires-clause-dc
alternating_curve-requires-clause-dc c = operand c.args.operands.now 3 c.requires.within (omega (arith, c.requires.five))

pub alternating_curve-requires-clause-last : goal.alternating_curve-requires-clause-last
alternating_curve-requires-clause-last c = operand c.args.operands.now 4 c.requires.within (omega (arith, c.requires.five))
