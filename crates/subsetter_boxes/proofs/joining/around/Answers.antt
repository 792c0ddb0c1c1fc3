use Rattle.std.proofs.Common.{◌≡◌, ℤ, rules, w16, to_z, of_z}
use Rattle.std.proofs.lemmas.Int.{to_z-of_z}
use Rattle.std.specs.Int.{int_max, int_min}
use mir.Val.{SFits}
use Rattle.subsetter_boxes.proofs.Edges.{box_is, edge_is}
use Rattle.subsetter_boxes.proofs.joining.around.Goals as goal

-- a number of 16 bits is passed as it is
whole : (z : ℤ) → SFits w16 z → to_z w16 (of_z w16 z) ≡ z
whole = to_z-of_z w16

pub returns : goal.returns
returns c =
    let left : SFits w16 c.smaller.result = search rules in
    let left_a : SFits w16 c.args.a.x_min = search rules in
    let left_b : SFits w16 c.args.b.x_min = search rules in
    let bottom : SFits w16 c.smaller-2.result = search rules in
    let bottom_a : SFits w16 c.args.a.y_min = search rules in
    let bottom_b : SFits w16 c.args.b.y_min = search rules in
    let right : SFits w16 c.larger.result = search rules in
    let right_a : SFits w16 c.args.a.x_max = search rules in
    let right_b : SFits w16 c.args.b.x_max = search rules in
    let top : SFits w16 c.larger-2.result = search rules in
    let top_a : SFits w16 c.args.a.y_max = search rules in
    let top_b : SFits w16 c.args.b.y_max = search rules in
    box_is _ _ _ _ _ _ _ _
    (edge_is int_min c.args.a.x_min c.args.b.x_min _ _ c.smaller.result _ (whole c.smaller.result left) c.smaller.ensures (whole c.args.a.x_min left_a) (whole c.args.b.x_min left_b))
    (edge_is int_min c.args.a.y_min c.args.b.y_min _ _ c.smaller-2.result _ (whole c.smaller-2.result bottom) c.smaller-2.ensures (whole c.args.a.y_min bottom_a) (whole c.args.b.y_min bottom_b))
    (edge_is int_max c.args.a.x_max c.args.b.x_max _ _ c.larger.result _ (whole c.larger.result right) c.larger.ensures (whole c.args.a.x_max right_a) (whole c.args.b.x_max right_b))
    (edge_is int_max c.args.a.y_max c.args.b.y_max _ _ c.larger-2.result _ (whole c.larger-2.result top) c.larger-2.ensures (whole c.args.a.y_max top_a) (whole c.args.b.y_max top_b))
