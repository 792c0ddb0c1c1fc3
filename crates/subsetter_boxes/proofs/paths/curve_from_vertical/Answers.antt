use Rattle.std.proofs.Common.{FitsSigned, w64, List, ap, ◌∙◌}
use Rattle.std.proofs.lemmas.Int.{to_z-of_z}
use Rattle.subsetter_blend.specs.Drawn.{Segment}
use Rattle.subsetter_boxes.specs.Traced.{traced}
use Rattle.subsetter_boxes.proofs.Fronts.{across_y}
use Rattle.subsetter_boxes.proofs.paths.curve_from_vertical.Goals as goal

pub returns-clause-value : goal.returns-clause-value
returns-clause-value c =
    let a : FitsSigned w64 c.args.da = c.ranges.da in
    let b : FitsSigned w64 c.args.dxb = c.ranges.dxb in
    let d : FitsSigned w64 c.args.dyb = c.ranges.dyb in
    let e : FitsSigned w64 c.args.dc = c.ranges.dc in
    let f : FitsSigned w64 c.args.last = c.ranges.last in
    (simp to_z-of_z at c.curve.ensures.value) ∙ ap (λ (s : List Segment). traced s c.args.pen) (across_y c.args.pen.at c.args.da c.args.dxb c.args.dyb c.args.dc c.args.last)
