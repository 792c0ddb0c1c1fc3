use Rattle.std.proofs.Common.{arith, ℤ, List, FitsSigned, w64, get_or, pos, ap, ◌∙◌, rules}
use Rattle.std.specs.Prelude.{not}
use Rattle.std.proofs.lemmas.Int.{to_z-of_z}
use Rattle.subsetter_blend.specs.Drawn.{alternating_curves}
use Rattle.subsetter_boxes.specs.Traced.{traced}
use Rattle.subsetter_boxes.proofs.Operands.{fewer, operand, operands_after}
use Rattle.subsetter_boxes.proofs.Turns.{alternating_go, alternating_lost}
use Rattle.subsetter_boxes.proofs.Walks.{rest_all}
use Rattle.subsetter_boxes.proofs.paths.+alternating_curves.Goals as goal

pub returns-in_ok-alternating_curve-in-len4-up-clause-value : goal.returns-in_ok-alternating_curve-in-len4-up-clause-value
returns-in_ok-alternating_curve-in-len4-up-clause-value t c =
    let f0 : FitsSigned w64 (get_or c.args.operands.now 0 (pos 0)) = search rules in
    let f1 : FitsSigned w64 (get_or c.args.operands.now 1 (pos 0)) = search rules in
    let f2 : FitsSigned w64 (get_or c.args.operands.now 2 (pos 0)) = search rules in
    let f3 : FitsSigned w64 (get_or c.args.operands.now 3 (pos 0)) = search rules in
    alternating_go c.args.vertical c.args.pen c.in_ok-alternating_curve-in-len4-up.field-0 c.args.operands.now c.alternating_curves.result c.in-len4-up.len_at_least (λ e. omega (arith, e)) (simp to_z-of_z at c.in_ok-alternating_curve-in-len4-up.ensures.value) (c.alternating_curves.ensures.value ∙ ap (λ (l : List ℤ). traced (alternating_curves (not c.args.vertical) c.in_ok-alternating_curve-in-len4-up.field-0.at l) c.in_ok-alternating_curve-in-len4-up.field-0) (rest_all 4 c.args.operands.now))

pub returns-in_err-alternating_curve-in-len4-up-clause-value : goal.returns-in_err-alternating_curve-in-len4-up-clause-value
returns-in_err-alternating_curve-in-len4-up-clause-value t c =
    let f0 : FitsSigned w64 (get_or c.args.operands.now 0 (pos 0)) = search rules in
    let f1 : FitsSigned w64 (get_or c.args.operands.now 1 (pos 0)) = search rules in
    let f2 : FitsSigned w64 (get_or c.args.operands.now 2 (pos 0)) = search rules in
    let f3 : FitsSigned w64 (get_or c.args.operands.now 3 (pos 0)) = search rules in
    rw c.from_residual.ensures (alternating_lost c.args.vertical c.args.pen c.args.operands.now c.in-len4-up.len_at_least (λ e. omega (arith, e)) (simp to_z-of_z at c.in_err-alternating_curve-in-len4-up.ensures.value))

pub alternating_curve-requires-clause-da : goal.alternating_curve-requires-clause-da
alternating_curve-requires-clause-da t c = operand c.args.operands.now 0 c.requires.within (omega (arith, c.in-len4-up.len_at_least))

pub alternating_curve-requires-clause-dxb : goal.alternating_curve-requires-clause-dxb
alternating_curve-requires-clause-dxb t c = operand c.args.operands.now 1 c.requires.within (omega (arith, c.in-len4-up.len_at_least))

pub alternating_curve-requires-clause-dyb : goal.alternating_curve-requires-clause-dyb
alternating_curve-requires-clause-dyb t c = operand c.args.operands.now 2 c.requires.within (omega (arith, c.in-len4-up.len_at_least))

pub alternating_curve-requires-clause-dc : goal.alternating_curve-requires-clause-dc
alternating_curve-requires-clause-dc t c = operand c.args.operands.now 3 c.requires.within (omega (arith, c.in-len4-up.len_at_least))

pub alternating_curves-requires : goal.alternating_curves-requires
alternating_curves-requires t c =
    let xs : List ℤ = c.args.operands.now in
    (omega (arith, fewer 4 xs (omega arith) c.in-len4-up.len_at_least, c.decreases), (c.in_ok-alternating_curve-in-len4-up.ensures.held, operands_after 4 xs c.requires.within))

pub returns-in_err-alternating_curve-in-len4-up-clause-held : goal.returns-in_err-alternating_curve-in-len4-up-clause-held
returns-in_err-alternating_curve-in-len4-up-clause-held t c = rw c.from_residual.ensures tt
