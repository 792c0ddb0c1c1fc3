-- A path whose front was followed goes on where that ends.
use Rattle.std.proofs.Common.{◌≡◌, ℤ, pos, ◌+ℤ◌, true, false, List, [], ◌∷◌, ◌++◌, Option, Some, None, sym, ap, ◌∙◌, arith}
use Rattle.std.proofs.lemmas.Int.{ints}
use Rattle.std.specs.Option.{option_and_then}
use Rattle.subsetter_blend.specs.declared.writing.placing.Position.{Position}
use Rattle.subsetter_blend.specs.declared.axes.Along.TheVariants.{X, Y}
use Rattle.subsetter_blend.specs.Drawn.{Segment, Curve, by, curves, horizontal_curves, vertical_curves, alternating_curves, point_after}
use Rattle.subsetter_blend.specs.Writing.Placed.{position_after}
use Rattle.subsetter_boxes.specs.declared.pen.Pen.{Pen}
use Rattle.subsetter_boxes.specs.CharstringBox.{points}
use Rattle.subsetter_boxes.specs.Traced.{followed, traced}
use Rattle.subsetter_boxes.proofs.Followed.{points_both, followed_both, followed_end}

both : (one more : List Segment) (pen : Pen) → traced (one ++ more) pen ≡ option_and_then (traced more) (traced one pen)
both one more pen = ap (λ (ps : List Position). followed ps pen) (points_both one more) ∙ followed_both (points one) (points more) pen

pub more_of : (one : List Segment) (after : Position → List Segment) (pen p : Pen) (r : Option Pen) → Some p ≡ traced one pen → r ≡ traced (after p.at) p → r ≡ traced (one ++ after (point_after pen.at one)) pen
more_of one after pen p r h k =
    k ∙ ap (λ (at : Position). traced (after at) p) (followed_end pen p one (sym h))
    ∙ ap (λ (o : Option Pen). option_and_then (traced (after (point_after pen.at one))) o) h
    ∙ sym (both one (after (point_after pen.at one)) pen)

pub lost_of : (one more : List Segment) (pen : Pen) → None ≡ traced one pen → None ≡ traced (one ++ more) pen
lost_of one more pen h = ap (λ (o : Option Pen). option_and_then (traced more) o) h ∙ sym (both one more pen)

-- ---- a move along one axis
pub plus_none : (z : ℤ) → z +ℤ pos 0 ≡ z
plus_none z = omega (arith, ints)

along_x : (d : ℤ) (at : Position) → by d (pos 0) at ≡ position_after X d at
along_x d at = ap (λ (y : ℤ). record { x = at.x +ℤ d; y = y }) (plus_none at.y)

along_y_alone : (d : ℤ) (at : Position) → by (pos 0) d at ≡ position_after Y d at
along_y_alone d at = ap (λ (x : ℤ). record { x = x; y = at.y +ℤ d }) (plus_none at.x)

-- ---- curves in rrcurveto's form
abbrev pub curve_at : Position → (dxa dya dxb dyb dxc dyc : ℤ) → List Segment
curve_at at dxa dya dxb dyb dxc dyc = curves at (dxa ∷ dya ∷ dxb ∷ dyb ∷ dxc ∷ dyc ∷ [])

pub horizontal_is : (at : Position) (a b c d : ℤ) → curve_at at a (pos 0) b c d (pos 0) ≡ horizontal_curves at (a ∷ b ∷ c ∷ d ∷ [])
horizontal_is at a b c d =
    let first : Position = position_after X a at in
    ap (λ (p : Position). Curve p (by b c p) (by d (pos 0) (by b c p)) ∷ []) (along_x a at) ∙ ap (λ (p : Position). Curve first (by b c first) p ∷ []) (along_x d (by b c first))

pub vertical_is : (at : Position) (a b c d : ℤ) → curve_at at (pos 0) a b c (pos 0) d ≡ vertical_curves at (a ∷ b ∷ c ∷ d ∷ [])
vertical_is at a b c d =
    let first : Position = position_after Y a at in
    ap (λ (p : Position). Curve p (by b c p) (by (pos 0) d (by b c p)) ∷ []) (along_y_alone a at) ∙ ap (λ (p : Position). Curve first (by b c first) p ∷ []) (along_y_alone d (by b c first))

pub level_end : (at : Position) (a e b c d : ℤ) → curve_at at a e b c d (pos 0) ≡ horizontal_curves (position_after Y e at) (a ∷ b ∷ c ∷ d ∷ [])
level_end at a e b c d = ap (λ (p : Position). Curve (by a e at) (by b c (by a e at)) p ∷ []) (along_x d (by b c (by a e at)))

pub plumb_end : (at : Position) (e a b c d : ℤ) → curve_at at e a b c (pos 0) d ≡ vertical_curves (position_after X e at) (a ∷ b ∷ c ∷ d ∷ [])
plumb_end at e a b c d = ap (λ (p : Position). Curve (by e a at) (by b c (by e a at)) p ∷ []) (along_y_alone d (by b c (by e a at)))

pub across_x : (at : Position) (a b c d e : ℤ) → curve_at at a (pos 0) b c e d ≡ alternating_curves false at (a ∷ b ∷ c ∷ d ∷ e ∷ [])
across_x at a b c d e = ap (λ (p : Position). Curve p (by b c p) (by e d (by b c p)) ∷ []) (along_x a at)

pub across_y : (at : Position) (a b c d e : ℤ) → curve_at at (pos 0) a b c d e ≡ alternating_curves true at (a ∷ b ∷ c ∷ d ∷ e ∷ [])
across_y at a b c d e = ap (λ (p : Position). Curve p (by b c p) (by d e (by b c p)) ∷ []) (along_y_alone a at)
