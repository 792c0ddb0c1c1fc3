use Rattle.std.proofs.Common.{arith, ℤ, List, FitsSigned, w64, get_or, pos, ap, ◌∙◌, rules, true, refl}
use Rattle.std.proofs.lemmas.Int.{to_z-of_z}
use Rattle.subsetter_blend.specs.Drawn.{horizontal_curves}
use Rattle.subsetter_boxes.specs.Traced.{traced}
use Rattle.subsetter_boxes.proofs.Operands.{few_raised, operand, operands_after}
use Rattle.subsetter_boxes.proofs.Turns.{hh_go, hh_lost}
use Rattle.subsetter_boxes.proofs.Walks.{rest_all}
use Rattle.subsetter_boxes.proofs.paths.raised_curves.Goals as goal

pub returns-in_ok-curve-in-len5-up-clause-value : goal.returns-in_ok-curve-in-len5-up-clause-value
returns-in_ok-curve-in-len5-up-clause-value c =
    let f0 : FitsSigned w64 (get_or c.args.operands.now 0 (pos 0)) = search rules in
    let f1 : FitsSigned w64 (get_or c.args.operands.now 1 (pos 0)) = search rules in
    let f2 : FitsSigned w64 (get_or c.args.operands.now 2 (pos 0)) = search rules in
    let f3 : FitsSigned w64 (get_or c.args.operands.now 3 (pos 0)) = search rules in
    let f4 : FitsSigned w64 (get_or c.args.operands.now 4 (pos 0)) = search rules in
    hh_go c.args.pen c.in_ok-curve-in-len5-up.field-0 c.args.operands.now true c.horizontal_curves.result refl c.in-len5-up.len_at_least (simp to_z-of_z at c.in_ok-curve-in-len5-up.ensures.value) (c.horizontal_curves.ensures.value ∙ ap (λ (l : List ℤ). traced (horizontal_curves c.in_ok-curve-in-len5-up.field-0.at l) c.in_ok-curve-in-len5-up.field-0) (rest_all 5 c.args.operands.now))

pub returns-in_err-curve-in-len5-up-clause-value : goal.returns-in_err-curve-in-len5-up-clause-value
returns-in_err-curve-in-len5-up-clause-value c =
    let f0 : FitsSigned w64 (get_or c.args.operands.now 0 (pos 0)) = search rules in
    let f1 : FitsSigned w64 (get_or c.args.operands.now 1 (pos 0)) = search rules in
    let f2 : FitsSigned w64 (get_or c.args.operands.now 2 (pos 0)) = search rules in
    let f3 : FitsSigned w64 (get_or c.args.operands.now 3 (pos 0)) = search rules in
    let f4 : FitsSigned w64 (get_or c.args.operands.now 4 (pos 0)) = search rules in
    rw c.from_residual.ensures (hh_lost c.args.pen c.args.operands.now true refl c.in-len5-up.len_at_least (simp to_z-of_z at c.in_err-curve-in-len5-up.ensures.value))

pub curve-requires-clause-dxa : goal.curve-requires-clause-dxa
curve-requires-clause-dxa c = operand c.args.operands.now 1 c.requires.within (omega (arith, c.in-len5-up.len_at_least))

pub curve-requires-clause-dya : goal.curve-requires-clause-dya
curve-requires-clause-dya c = operand c.args.operands.now 0 c.requires.within (omega (arith, c.in-len5-up.len_at_least))

pub curve-requires-clause-dxb : goal.curve-requires-clause-dxb
curve-requires-clause-dxb c = operand c.args.operands.now 2 c.requires.within (omega (arith, c.in-len5-up.len_at_least))

pub curve-requires-clause-dyb : goal.curve-requires-clause-dyb
curve-requires-clause-dyb c = operand c.args.operands.now 3 c.requires.within (omega (arith, c.in-len5-up.len_at_least))

pub curve-requires-clause-dxc : goal.curve-requires-clause-dxc
curve-requires-clause-dxc c = operand c.args.operands.now 4 c.requires.within (omega (arith, c.in-len5-up.len_at_least))

pub horizontal_curves-requires-clause-at : goal.horizontal_curves-requires-clause-at
horizontal_curves-requires-clause-at c = c.in_ok-curve-in-len5-up.ensures.held

pub horizontal_curves-requires-clause-within : goal.horizontal_curves-requires-clause-within
horizontal_curves-requires-clause-within c = operands_after 5 c.args.operands.now c.requires.within

pub returns-in_err-curve-in-len5-up-clause-held : goal.returns-in_err-curve-in-len5-up-clause-held
returns-in_err-curve-in-len5-up-clause-held c = rw c.from_residual.ensures tt

pub returns-in_default-clause-value : goal.returns-in_default-clause-value
returns-in_default-clause-value c = few_raised c.args.pen c.args.operands.now c.in_default.len_below
