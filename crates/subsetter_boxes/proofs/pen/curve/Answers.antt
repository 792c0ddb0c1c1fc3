use Rattle.std.proofs.Common.{FitsSigned, w64}
use Rattle.std.proofs.lemmas.Int.{to_z-of_z}
use Rattle.subsetter_boxes.proofs.Walks.{curve_gone}
use Rattle.subsetter_boxes.proofs.pen.curve.Goals as goal

pub returns-clause-value : goal.returns-clause-value
returns-clause-value c =
    let a : FitsSigned w64 c.args.dxa = c.ranges.dxa in
    let b : FitsSigned w64 c.args.dya = c.ranges.dya in
    let d : FitsSigned w64 c.args.dxb = c.ranges.dxb in
    let e : FitsSigned w64 c.args.dyb = c.ranges.dyb in
    let f : FitsSigned w64 c.args.dxc = c.ranges.dxc in
    let g : FitsSigned w64 c.args.dyc = c.ranges.dyc in
    curve_gone c.args.dxa c.args.dya c.args.dxb c.args.dyb c.args.dxc c.args.dyc c.args.pen c.in_ok-first.first c.in_ok-second.second c.go-3.result
    (simp to_z-of_z at c.in_ok-first.ensures.value) (simp to_z-of_z at c.in_ok-first.ensures.at)
    (simp to_z-of_z at c.in_ok-second.ensures.value) (simp to_z-of_z at c.in_ok-second.ensures.at)
    (simp to_z-of_z at c.go-3.ensures.value)
