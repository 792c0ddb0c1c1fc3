use Rattle.std.proofs.Common.{arith, ℤ, List, FitsSigned, w64, get_or, pos, ap, ◌∙◌, rules}
use Rattle.std.proofs.lemmas.Int.{to_z-of_z}
use Rattle.subsetter_blend.specs.Drawn.{lines}
use Rattle.subsetter_boxes.specs.Traced.{traced}
use Rattle.subsetter_boxes.proofs.Lines.{few_lines, lines_lost}
use Rattle.subsetter_boxes.proofs.Operands.{fewer, operand, operands_after}
use Rattle.subsetter_boxes.proofs.Walks.{lines_go, rest_all}
use Rattle.subsetter_boxes.proofs.paths.+lines.Goals as goal

pub returns-in_ok-go-in-len2-up-clause-value : goal.returns-in_ok-go-in-len2-up-clause-value
returns-in_ok-go-in-len2-up-clause-value t c =
    let f0 : FitsSigned w64 (get_or c.args.operands.now 0 (pos 0)) = search rules in
    let f1 : FitsSigned w64 (get_or c.args.operands.now 1 (pos 0)) = search rules in
    lines_go c.args.pen c.in_ok-go-in-len2-up.field-0 c.args.operands.now c.lines.result c.in-len2-up.len_at_least (simp to_z-of_z at c.in_ok-go-in-len2-up.ensures.value) (simp to_z-of_z at c.in_ok-go-in-len2-up.ensures.at) (c.lines.ensures.value ∙ ap (λ (l : List ℤ). traced (lines c.in_ok-go-in-len2-up.field-0.at l) c.in_ok-go-in-len2-up.field-0) (rest_all 2 c.args.operands.now))

pub go-requires-clause-dx : goal.go-requires-clause-dx
go-requires-clause-dx t c = operand c.args.operands.now 0 c.requires.within (omega (arith, c.in-len2-up.len_at_least))

pub go-requires-clause-dy : goal.go-requires-clause-dy
go-requires-clause-dy t c = operand c.args.operands.now 1 c.requires.within (omega (arith, c.in-len2-up.len_at_least))

pub lines-requires : goal.lines-requires
lines-requires t c =
    let xs : List ℤ = c.args.operands.now in
    (omega (arith, fewer 2 xs (omega arith) c.in-len2-up.len_at_least, c.decreases), (c.in_ok-go-in-len2-up.ensures.held, operands_after 2 xs c.requires.within))

pub returns-in_err-go-in-len2-up-clause-held : goal.returns-in_err-go-in-len2-up-clause-held
returns-in_err-go-in-len2-up-clause-held t c = rw c.from_residual.ensures tt

pub returns-in_err-go-in-len2-up-clause-value : goal.returns-in_err-go-in-len2-up-clause-value
returns-in_err-go-in-len2-up-clause-value t c =
    let f0 : FitsSigned w64 (get_or c.args.operands.now 0 (pos 0)) = search rules in
    let f1 : FitsSigned w64 (get_or c.args.operands.now 1 (pos 0)) = search rules in
    rw c.from_residual.ensures (lines_lost c.args.pen c.args.operands.now c.in-len2-up.len_at_least (simp to_z-of_z at c.in_err-go-in-len2-up.ensures.value))

pub returns-in_default-clause-value : goal.returns-in_default-clause-value
returns-in_default-clause-value t c = few_lines c.args.pen c.args.operands.now c.in_default.len_below
