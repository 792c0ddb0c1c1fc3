use Rattle.std.proofs.Common.{arith, ℤ, List, FitsSigned, w64, get_or, pos, ap, ◌∙◌, rules}
use Rattle.std.specs.Prelude.{not}
use Rattle.std.proofs.lemmas.Int.{to_z-of_z}
use Rattle.subsetter_blend.specs.Drawn.{alternating_lines}
use Rattle.subsetter_boxes.specs.declared.pen.Pen.{Pen}
use Rattle.subsetter_boxes.specs.Traced.{traced}
use Rattle.subsetter_boxes.proofs.Lines.{no_turns, turn_go, turn_lost}
use Rattle.subsetter_boxes.proofs.Operands.{fewer, operand, operands_after}
use Rattle.subsetter_boxes.proofs.Walks.{rest_all}
use Rattle.subsetter_boxes.proofs.paths.+alternating_lines.Goals as goal

pub go_along-requires-clause-d : goal.go_along-requires-clause-d
go_along-requires-clause-d t c = operand c.args.operands.now 0 c.requires.within (omega (arith, c.in-len1-up.len_at_least))

pub alternating_lines-requires : goal.alternating_lines-requires
alternating_lines-requires t c =
    let xs : List ℤ = c.args.operands.now in
    (omega (arith, fewer 1 xs (omega arith) c.in-len1-up.len_at_least, c.decreases), (c.in_ok-go_along-in-len1-up.ensures.held, operands_after 1 xs c.requires.within))

pub returns-in_err-go_along-in-len1-up-clause-held : goal.returns-in_err-go_along-in-len1-up-clause-held
returns-in_err-go_along-in-len1-up-clause-held t c = rw c.from_residual.ensures tt

pub returns-in_err-go_along-in-len1-up-clause-value : goal.returns-in_err-go_along-in-len1-up-clause-value
returns-in_err-go_along-in-len1-up-clause-value t c =
    let f0 : FitsSigned w64 (get_or c.args.operands.now 0 (pos 0)) = search rules in
    rw c.from_residual.ensures (turn_lost c.args.vertical c.args.pen c.args.operands.now c.in-len1-up.len_at_least (simp to_z-of_z at c.in_err-go_along-in-len1-up.ensures.value))

pub returns-in-empty-clause-value : goal.returns-in-empty-clause-value
returns-in-empty-clause-value t c = no_turns c.args.vertical c.args.pen c.args.operands.now c.in-empty.len_below

pub returns-in_ok-go_along-in-len1-up-clause-value : goal.returns-in_ok-go_along-in-len1-up-clause-value
returns-in_ok-go_along-in-len1-up-clause-value t c =
    let xs : List ℤ = c.args.operands.now in
    let p : Pen = c.in_ok-go_along-in-len1-up.field-0 in
    let f0 : FitsSigned w64 (get_or xs 0 (pos 0)) = search rules in
    turn_go c.args.vertical c.args.pen p xs c.alternating_lines.result c.in-len1-up.len_at_least (simp to_z-of_z at c.in_ok-go_along-in-len1-up.ensures.value) (simp to_z-of_z at c.in_ok-go_along-in-len1-up.ensures.at)
    (c.alternating_lines.ensures.value ∙ ap (λ (l : List ℤ). traced (alternating_lines (not c.args.vertical) p.at l) p) (rest_all 1 xs))
