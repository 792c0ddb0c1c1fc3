-- The operands of curves that turn: with an odd operand in front, or alternating.
use Rattle.std.proofs.Common.{◌≡◌, ℤ, pos, ◌≤◌, Bool, true, List, [], ◌∷◌, length, drop, get_or, Option, Some, None, sym, ap, ◌∙◌, arith}
use Rattle.std.specs.Prelude.{not}
use Rattle.subsetter_blend.specs.declared.axes.Along.TheVariants.{X, Y}
use Rattle.subsetter_blend.specs.Drawn.{Segment, horizontal_curves, vertical_curves, odd_horizontal, odd_vertical, alternating_curves, point_after}
use Rattle.subsetter_blend.specs.Writing.Placed.{position_after}
use Rattle.subsetter_boxes.specs.declared.pen.Pen.{Pen}
use Rattle.subsetter_boxes.specs.Traced.{traced}
use Rattle.subsetter_boxes.proofs.Fronts.{more_of, lost_of, curve_at, level_end, plumb_end}
use Rattle.subsetter_boxes.proofs.Shapes.{alternating_first, alternating_four}

-- ---- an odd operand in front
pub hh_go : (pen p : Pen) (xs : List ℤ) (t : Bool) (r : Option Pen) → t ≡ true → 5 ≤ length xs
    → Some p ≡ traced (curve_at pen.at (get_or xs 1 (pos 0)) (get_or xs 0 (pos 0)) (get_or xs 2 (pos 0)) (get_or xs 3 (pos 0)) (get_or xs 4 (pos 0)) (pos 0)) pen
    → r ≡ traced (horizontal_curves p.at (drop 5 xs)) p → r ≡ traced (odd_horizontal t pen.at xs) pen
hh_go pen p [] t r e l h k = absurd (omega arith)
hh_go pen p (x ∷ []) t r e l h k = absurd (omega arith)
hh_go pen p (x ∷ a ∷ []) t r e l h k = absurd (omega arith)
hh_go pen p (x ∷ a ∷ b ∷ []) t r e l h k = absurd (omega arith)
hh_go pen p (x ∷ a ∷ b ∷ c ∷ []) t r e l h k = absurd (omega arith)
hh_go pen p (x ∷ a ∷ b ∷ c ∷ d ∷ xs) t r e l h k =
    let one : List Segment = horizontal_curves (position_after Y x pen.at) (a ∷ b ∷ c ∷ d ∷ []) in
    more_of one (λ at. horizontal_curves at xs) pen p r (h ∙ ap (λ (s : List Segment). traced s pen) (level_end pen.at a x b c d)) k
    ∙ ap (λ (y : Bool). traced (odd_horizontal y pen.at (x ∷ a ∷ b ∷ c ∷ d ∷ xs)) pen) (sym e)

pub hh_lost : (pen : Pen) (xs : List ℤ) (t : Bool) → t ≡ true → 5 ≤ length xs
    → None ≡ traced (curve_at pen.at (get_or xs 1 (pos 0)) (get_or xs 0 (pos 0)) (get_or xs 2 (pos 0)) (get_or xs 3 (pos 0)) (get_or xs 4 (pos 0)) (pos 0)) pen
    → None ≡ traced (odd_horizontal t pen.at xs) pen
hh_lost pen [] t e l h = absurd (omega arith)
hh_lost pen (x ∷ []) t e l h = absurd (omega arith)
hh_lost pen (x ∷ a ∷ []) t e l h = absurd (omega arith)
hh_lost pen (x ∷ a ∷ b ∷ []) t e l h = absurd (omega arith)
hh_lost pen (x ∷ a ∷ b ∷ c ∷ []) t e l h = absurd (omega arith)
hh_lost pen (x ∷ a ∷ b ∷ c ∷ d ∷ xs) t e l h =
    let one : List Segment = horizontal_curves (position_after Y x pen.at) (a ∷ b ∷ c ∷ d ∷ []) in
    lost_of one (horizontal_curves (point_after pen.at one) xs) pen (h ∙ ap (λ (s : List Segment). traced s pen) (level_end pen.at a x b c d))
    ∙ ap (λ (y : Bool). traced (odd_horizontal y pen.at (x ∷ a ∷ b ∷ c ∷ d ∷ xs)) pen) (sym e)

pub vv_go : (pen p : Pen) (xs : List ℤ) (t : Bool) (r : Option Pen) → t ≡ true → 5 ≤ length xs
    → Some p ≡ traced (curve_at pen.at (get_or xs 0 (pos 0)) (get_or xs 1 (pos 0)) (get_or xs 2 (pos 0)) (get_or xs 3 (pos 0)) (pos 0) (get_or xs 4 (pos 0))) pen
    → r ≡ traced (vertical_curves p.at (drop 5 xs)) p → r ≡ traced (odd_vertical t pen.at xs) pen
vv_go pen p [] t r e l h k = absurd (omega arith)
vv_go pen p (x ∷ []) t r e l h k = absurd (omega arith)
vv_go pen p (x ∷ a ∷ []) t r e l h k = absurd (omega arith)
vv_go pen p (x ∷ a ∷ b ∷ []) t r e l h k = absurd (omega arith)
vv_go pen p (x ∷ a ∷ b ∷ c ∷ []) t r e l h k = absurd (omega arith)
vv_go pen p (x ∷ a ∷ b ∷ c ∷ d ∷ xs) t r e l h k =
    let one : List Segment = vertical_curves (position_after X x pen.at) (a ∷ b ∷ c ∷ d ∷ []) in
    more_of one (λ at. vertical_curves at xs) pen p r (h ∙ ap (λ (s : List Segment). traced s pen) (plumb_end pen.at x a b c d)) k
    ∙ ap (λ (y : Bool). traced (odd_vertical y pen.at (x ∷ a ∷ b ∷ c ∷ d ∷ xs)) pen) (sym e)

pub vv_lost : (pen : Pen) (xs : List ℤ) (t : Bool) → t ≡ true → 5 ≤ length xs
    → None ≡ traced (curve_at pen.at (get_or xs 0 (pos 0)) (get_or xs 1 (pos 0)) (get_or xs 2 (pos 0)) (get_or xs 3 (pos 0)) (pos 0) (get_or xs 4 (pos 0))) pen
    → None ≡ traced (odd_vertical t pen.at xs) pen
vv_lost pen [] t e l h = absurd (omega arith)
vv_lost pen (x ∷ []) t e l h = absurd (omega arith)
vv_lost pen (x ∷ a ∷ []) t e l h = absurd (omega arith)
vv_lost pen (x ∷ a ∷ b ∷ []) t e l h = absurd (omega arith)
vv_lost pen (x ∷ a ∷ b ∷ c ∷ []) t e l h = absurd (omega arith)
vv_lost pen (x ∷ a ∷ b ∷ c ∷ d ∷ xs) t e l h =
    let one : List Segment = vertical_curves (position_after X x pen.at) (a ∷ b ∷ c ∷ d ∷ []) in
    lost_of one (vertical_curves (point_after pen.at one) xs) pen (h ∙ ap (λ (s : List Segment). traced s pen) (plumb_end pen.at x a b c d))
    ∙ ap (λ (y : Bool). traced (odd_vertical y pen.at (x ∷ a ∷ b ∷ c ∷ d ∷ xs)) pen) (sym e)

-- ---- alternating
pub alternating_five : (v : Bool) (pen : Pen) (xs : List ℤ) (r : Option Pen) → length xs ≡ 5
    → r ≡ traced (alternating_curves v pen.at (get_or xs 0 (pos 0) ∷ get_or xs 1 (pos 0) ∷ get_or xs 2 (pos 0) ∷ get_or xs 3 (pos 0) ∷ get_or xs 4 (pos 0) ∷ [])) pen
    → r ≡ traced (alternating_curves v pen.at xs) pen
alternating_five v pen [] r l h = absurd (omega arith)
alternating_five v pen (a ∷ []) r l h = absurd (omega arith)
alternating_five v pen (a ∷ b ∷ []) r l h = absurd (omega arith)
alternating_five v pen (a ∷ b ∷ c ∷ []) r l h = absurd (omega arith)
alternating_five v pen (a ∷ b ∷ c ∷ d ∷ []) r l h = absurd (omega arith)
alternating_five v pen (a ∷ b ∷ c ∷ d ∷ e ∷ []) r l h = h
alternating_five v pen (a ∷ b ∷ c ∷ d ∷ e ∷ f ∷ xs) r l h = absurd (omega arith)

pub alternating_go : (v : Bool) (pen p : Pen) (xs : List ℤ) (r : Option Pen) → 4 ≤ length xs → (length xs ≡ 5 → ⊥)
    → Some p ≡ traced (alternating_curves v pen.at (get_or xs 0 (pos 0) ∷ get_or xs 1 (pos 0) ∷ get_or xs 2 (pos 0) ∷ get_or xs 3 (pos 0) ∷ pos 0 ∷ [])) pen
    → r ≡ traced (alternating_curves (not v) p.at (drop 4 xs)) p → r ≡ traced (alternating_curves v pen.at xs) pen
alternating_go v pen p [] r l n h k = absurd (omega arith)
alternating_go v pen p (a ∷ []) r l n h k = absurd (omega arith)
alternating_go v pen p (a ∷ b ∷ []) r l n h k = absurd (omega arith)
alternating_go v pen p (a ∷ b ∷ c ∷ []) r l n h k = absurd (omega arith)
alternating_go v pen p (a ∷ b ∷ c ∷ d ∷ xs) r l n h k =
    more_of (alternating_curves v pen.at (a ∷ b ∷ c ∷ d ∷ [])) (λ at. alternating_curves (not v) at xs) pen p r (h ∙ ap (λ (s : List Segment). traced s pen) (alternating_four v pen.at a b c d)) k
    ∙ ap (λ (s : List Segment). traced s pen) (sym (alternating_first v pen.at a b c d xs (λ one. n (omega (arith, one)))))

pub alternating_lost : (v : Bool) (pen : Pen) (xs : List ℤ) → 4 ≤ length xs → (length xs ≡ 5 → ⊥)
    → None ≡ traced (alternating_curves v pen.at (get_or xs 0 (pos 0) ∷ get_or xs 1 (pos 0) ∷ get_or xs 2 (pos 0) ∷ get_or xs 3 (pos 0) ∷ pos 0 ∷ [])) pen
    → None ≡ traced (alternating_curves v pen.at xs) pen
alternating_lost v pen [] l n h = absurd (omega arith)
alternating_lost v pen (a ∷ []) l n h = absurd (omega arith)
alternating_lost v pen (a ∷ b ∷ []) l n h = absurd (omega arith)
alternating_lost v pen (a ∷ b ∷ c ∷ []) l n h = absurd (omega arith)
alternating_lost v pen (a ∷ b ∷ c ∷ d ∷ xs) l n h =
    let one : List Segment = alternating_curves v pen.at (a ∷ b ∷ c ∷ d ∷ []) in
    lost_of one (alternating_curves (not v) (point_after pen.at one) xs) pen (h ∙ ap (λ (s : List Segment). traced s pen) (alternating_four v pen.at a b c d))
    ∙ ap (λ (s : List Segment). traced s pen) (sym (alternating_first v pen.at a b c d xs (λ one. n (omega (arith, one)))))
