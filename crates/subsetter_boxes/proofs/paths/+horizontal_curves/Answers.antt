use Rattle.std.proofs.Common.{arith, ℤ, List, FitsSigned, w64, get_or, pos, ap, ◌∙◌, rules}
use Rattle.std.proofs.lemmas.Int.{to_z-of_z}
use Rattle.subsetter_blend.specs.Drawn.{horizontal_curves}
use Rattle.subsetter_boxes.specs.Traced.{traced}
use Rattle.subsetter_boxes.proofs.Operands.{few_horizontal, fewer, operand, operands_after}
use Rattle.subsetter_boxes.proofs.Walks.{horizontal_go, horizontal_lost, rest_all}
use Rattle.subsetter_boxes.proofs.paths.+horizontal_curves.Goals as goal

pub returns-in_ok-curve-in-len4-up-clause-value : goal.returns-in_ok-curve-in-len4-up-clause-value
returns-in_ok-curve-in-len4-up-clause-value t c =
    let f0 : FitsSigned w64 (get_or c.args.operands.now 0 (pos 0)) = search rules in
    let f1 : FitsSigned w64 (get_or c.args.operands.now 1 (pos 0)) = search rules in
    let f2 : FitsSigned w64 (get_or c.args.operands.now 2 (pos 0)) = search rules in
    let f3 : FitsSigned w64 (get_or c.args.operands.now 3 (pos 0)) = search rules in
    horizontal_go c.args.pen c.in_ok-curve-in-len4-up.field-0 c.args.operands.now c.horizontal_curves.result c.in-len4-up.len_at_least (simp to_z-of_z at c.in_ok-curve-in-len4-up.ensures.value) (c.horizontal_curves.ensures.value ∙ ap (λ (l : List ℤ). traced (horizontal_curves c.in_ok-curve-in-len4-up.field-0.at l) c.in_ok-curve-in-len4-up.field-0) (rest_all 4 c.args.operands.now))

pub returns-in_err-curve-in-len4-up-clause-value : goal.returns-in_err-curve-in-len4-up-clause-value
returns-in_err-curve-in-len4-up-clause-value t c =
    let f0 : FitsSigned w64 (get_or c.args.operands.now 0 (pos 0)) = search rules in
    let f1 : FitsSigned w64 (get_or c.args.operands.now 1 (pos 0)) = search rules in
    let f2 : FitsSigned w64 (get_or c.args.operands.now 2 (pos 0)) = search rules in
    let f3 : FitsSigned w64 (get_or c.args.operands.now 3 (pos 0)) = search rules in
    rw c.from_residual.ensures (horizontal_lost c.args.pen c.args.operands.now c.in-len4-up.len_at_least (simp to_z-of_z at c.in_err-curve-in-len4-up.ensures.value))

pub curve-requires-clause-dxa : goal.curve-requires-clause-dxa
curve-requires-clause-dxa t c = operand c.args.operands.now 0 c.requires.within (omega (arith, c.in-len4-up.len_at_least))

pub curve-requires-clause-dxb : goal.curve-requires-clause-dxb
curve-requires-clause-dxb t c = operand c.args.operands.now 1 c.requires.within (omega (arith, c.in-len4-up.len_at_least))

pub curve-requires-clause-dyb : goal.curve-requires-clause-dyb
curve-requires-clause-dyb t c = operand c.args.operands.now 2 c.requires.within (omega (arith, c.in-len4-up.len_at_least))

pub curve-requires-clause-dxc : goal.curve-requires-clause-dxc
curve-requires-clause-dxc t c = operand c.args.operands.now 3 c.requires.within (omega (arith, c.in-len4-up.len_at_least))

pub horizontal_curves-requires : goal.horizontal_curves-requires
horizontal_curves-requires t c =
    let xs : List ℤ = c.args.operands.now in
    (omega (arith, fewer 4 xs (omega arith) c.in-len4-up.len_at_least, c.decreases), (c.in_ok-curve-in-len4-up.ensures.held, operands_after 4 xs c.requires.within))

pub returns-in_err-curve-in-len4-up-clause-held : goal.returns-in_err-curve-in-len4-up-clause-held
returns-in_err-curve-in-len4-up-clause-held t c = rw c.from_residual.ensures tt

pub returns-in_default-clause-value : goal.returns-in_default-clause-value
returns-in_default-clause-value t c = few_horizontal c.args.pen c.args.operands.now c.in_default.len_below
