use Rattle.std.proofs.Common.{arith, List, ap, ◌∙◌}
use Rattle.subsetter_blend.specs.Drawn.{Segment}
use Rattle.subsetter_boxes.specs.Traced.{traced}
use Rattle.subsetter_boxes.proofs.Walks.{lines_only, six_curve}
use Rattle.subsetter_boxes.proofs.paths.end_of_lines.Goals as goal

pub returns-then-operands-eq6-clause-value : goal.returns-then-operands-eq6-clause-value
returns-then-operands-eq6-clause-value c =
    c.curves.ensures.value ∙ ap (λ (s : List Segment). traced s c.args.pen) (six_curve c.args.pen.at c.args.operands.now (omega arith))

pub returns-clause-value : goal.returns-clause-value
returns-clause-value c =
    c.lines.ensures.value ∙ ap (λ (s : List Segment). traced s c.args.pen) (lines_only c.args.pen.at c.args.operands.now (omega arith) (λ e. omega (arith, e)))
