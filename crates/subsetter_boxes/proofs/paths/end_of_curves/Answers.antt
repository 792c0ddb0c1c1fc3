use Rattle.std.proofs.Common.{arith, List, sym, ap, ◌∙◌}
use Rattle.subsetter_blend.specs.Drawn.{Segment}
use Rattle.subsetter_boxes.specs.Traced.{traced}
use Rattle.subsetter_boxes.proofs.Shapes.{curves_line_short}
use Rattle.subsetter_boxes.proofs.Walks.{two_line}
use Rattle.subsetter_boxes.proofs.paths.end_of_curves.Goals as goal

pub returns-then-operands-eq2-clause-value : goal.returns-then-operands-eq2-clause-value
returns-then-operands-eq2-clause-value c =
    c.lines.ensures.value ∙ ap (λ (s : List Segment). traced s c.args.pen) (two_line c.args.pen.at c.args.operands.now (omega arith))

pub returns-clause-value : goal.returns-clause-value
returns-clause-value c =
    ap (λ (s : List Segment). traced s c.args.pen) (sym (curves_line_short c.args.pen.at c.args.operands.now (omega arith) (λ e. omega (arith, e))))
