-- The operands of a path, some at the front and then the others.
use Rattle.std.proofs.Common.{◌≡◌, ℕ, ℤ, pos, ◌≤◌, ◌<◌, ◌-◌, List, [], ◌∷◌, length, take, drop, get_or, Option, Some, None, refl, sym, ap, subst, ◌∙◌, arith, length-drop}
use Rattle.std.proofs.lemmas.List.{take_all}
use Rattle.std.specs.Prelude.{IfSome}
use Rattle.std.specs.Option.{option_and_then}
use Rattle.subsetter_blend.specs.declared.writing.placing.Position.{Position}
use Rattle.subsetter_blend.specs.Drawn.{Segment, by, lines, curves, curves_line, lines_curve, horizontal_curves, vertical_curves, point_after}
use Rattle.subsetter_boxes.specs.declared.pen.Pen.{Pen}
use Rattle.subsetter_boxes.specs.Traced.{visited, followed, traced}
use Rattle.subsetter_boxes.proofs.Fronts.{more_of, lost_of, curve_at, horizontal_is, vertical_is}
use Rattle.subsetter_boxes.proofs.Shapes.{line_first}

-- ---- one point
pub point_is : (x y a b : ℤ) (pen : Pen) (r : Option Pen) → r ≡ visited (record { x = a; y = b }) pen → a ≡ x → b ≡ y → r ≡ visited (record { x = x; y = y }) pen
point_is x y a b pen r h p q = h ∙ ap (λ (v : ℤ). visited (record { x = v; y = b }) pen) p ∙ ap (λ (v : ℤ). visited (record { x = x; y = v }) pen) q

pub there_is : (x y a b : ℤ) (r : Option Pen) → IfSome r (λ p. p.at ≡ record { x = a; y = b }) → a ≡ x → b ≡ y → IfSome r (λ p. p.at ≡ record { x = x; y = y })
there_is x y a b r h p q = subst (λ (v : ℤ). IfSome r (λ o. o.at ≡ record { x = v; y = y })) p (subst (λ (v : ℤ). IfSome r (λ o. o.at ≡ record { x = a; y = v })) q h)

-- ---- what is after some operands
pub rest_all : (n : ℕ) (xs : List ℤ) → take (length xs - n) (drop n xs) ≡ drop n xs
rest_all n xs = take_all (length xs - n) (drop n xs) (omega (arith, length-drop n xs))

-- ---- one curve
last : (o : Option Pen) → option_and_then (followed []) o ≡ o
last None = refl
last (Some p) = refl

pub curve_gone : (dxa dya dxb dyb dxc dyc : ℤ) (pen q1 q2 : Pen) (r : Option Pen) → Some q1 ≡ visited (by dxa dya pen.at) pen → q1.at ≡ by dxa dya pen.at → Some q2 ≡ visited (by dxb dyb q1.at) q1 → q2.at ≡ by dxb dyb q1.at
    → r ≡ visited (by dxc dyc q2.at) q2 → r ≡ traced (curve_at pen.at dxa dya dxb dyb dxc dyc) pen
curve_gone dxa dya dxb dyb dxc dyc pen q1 q2 r h1 e1 h2 e2 h3 =
    let p1 : Position = by dxa dya pen.at in
    let p2 : Position = by dxb dyb p1 in
    let p3 : Position = by dxc dyc p2 in
    let at2 : q2.at ≡ p2 = e2 ∙ ap (λ (p : Position). by dxb dyb p) e1 in
    let second : Some q2 ≡ visited p2 q1 = h2 ∙ ap (λ (p : Position). visited (by dxb dyb p) q1) e1 in
    let third : r ≡ visited p3 q2 = h3 ∙ ap (λ (p : Position). visited (by dxc dyc p) q2) at2 in
    third ∙ sym (last (visited p3 q2))
    ∙ ap (λ (o : Option Pen). option_and_then (followed (p3 ∷ [])) o) second
    ∙ ap (λ (o : Option Pen). option_and_then (followed (p2 ∷ p3 ∷ [])) o) h1

-- ---- lines
pub lines_go : (pen p : Pen) (xs : List ℤ) (r : Option Pen) → 2 ≤ length xs → Some p ≡ visited (by (get_or xs 0 (pos 0)) (get_or xs 1 (pos 0)) pen.at) pen → p.at ≡ by (get_or xs 0 (pos 0)) (get_or xs 1 (pos 0)) pen.at
    → r ≡ traced (lines p.at (drop 2 xs)) p → r ≡ traced (lines pen.at xs) pen
lines_go pen p [] r l h e k = absurd (omega arith)
lines_go pen p (a ∷ []) r l h e k = absurd (omega arith)
lines_go pen p (a ∷ b ∷ xs) r l h e k = k ∙ ap (λ (at : Position). traced (lines at xs) p) e ∙ ap (λ (o : Option Pen). option_and_then (traced (lines (by a b pen.at) xs)) o) h

-- ---- curves
pub curves_go : (pen p : Pen) (xs : List ℤ) (r : Option Pen) → 6 ≤ length xs
    → Some p ≡ traced (curve_at pen.at (get_or xs 0 (pos 0)) (get_or xs 1 (pos 0)) (get_or xs 2 (pos 0)) (get_or xs 3 (pos 0)) (get_or xs 4 (pos 0)) (get_or xs 5 (pos 0))) pen
    → r ≡ traced (curves p.at (drop 6 xs)) p → r ≡ traced (curves pen.at xs) pen
curves_go pen p [] r l h k = absurd (omega arith)
curves_go pen p (a ∷ []) r l h k = absurd (omega arith)
curves_go pen p (a ∷ b ∷ []) r l h k = absurd (omega arith)
curves_go pen p (a ∷ b ∷ c ∷ []) r l h k = absurd (omega arith)
curves_go pen p (a ∷ b ∷ c ∷ d ∷ []) r l h k = absurd (omega arith)
curves_go pen p (a ∷ b ∷ c ∷ d ∷ e ∷ []) r l h k = absurd (omega arith)
curves_go pen p (a ∷ b ∷ c ∷ d ∷ e ∷ f ∷ xs) r l h k = more_of (curve_at pen.at a b c d e f) (λ at. curves at xs) pen p r h k

pub curves_lost : (pen : Pen) (xs : List ℤ) → 6 ≤ length xs
    → None ≡ traced (curve_at pen.at (get_or xs 0 (pos 0)) (get_or xs 1 (pos 0)) (get_or xs 2 (pos 0)) (get_or xs 3 (pos 0)) (get_or xs 4 (pos 0)) (get_or xs 5 (pos 0))) pen
    → None ≡ traced (curves pen.at xs) pen
curves_lost pen [] l h = absurd (omega arith)
curves_lost pen (a ∷ []) l h = absurd (omega arith)
curves_lost pen (a ∷ b ∷ []) l h = absurd (omega arith)
curves_lost pen (a ∷ b ∷ c ∷ []) l h = absurd (omega arith)
curves_lost pen (a ∷ b ∷ c ∷ d ∷ []) l h = absurd (omega arith)
curves_lost pen (a ∷ b ∷ c ∷ d ∷ e ∷ []) l h = absurd (omega arith)
curves_lost pen (a ∷ b ∷ c ∷ d ∷ e ∷ f ∷ xs) l h = lost_of (curve_at pen.at a b c d e f) (curves (point_after pen.at (curve_at pen.at a b c d e f)) xs) pen h

-- ---- curves, and then a line
pub two_line : (at : Position) (xs : List ℤ) → length xs ≡ 2 → lines at xs ≡ curves_line at xs
two_line at [] l = absurd (omega arith)
two_line at (a ∷ []) l = absurd (omega arith)
two_line at (a ∷ b ∷ []) l = refl
two_line at (a ∷ b ∷ c ∷ xs) l = absurd (omega arith)

pub curves_line_go : (pen p : Pen) (xs : List ℤ) (r : Option Pen) → 6 ≤ length xs
    → Some p ≡ traced (curve_at pen.at (get_or xs 0 (pos 0)) (get_or xs 1 (pos 0)) (get_or xs 2 (pos 0)) (get_or xs 3 (pos 0)) (get_or xs 4 (pos 0)) (get_or xs 5 (pos 0))) pen
    → r ≡ traced (curves_line p.at (drop 6 xs)) p → r ≡ traced (curves_line pen.at xs) pen
curves_line_go pen p [] r l h k = absurd (omega arith)
curves_line_go pen p (a ∷ []) r l h k = absurd (omega arith)
curves_line_go pen p (a ∷ b ∷ []) r l h k = absurd (omega arith)
curves_line_go pen p (a ∷ b ∷ c ∷ []) r l h k = absurd (omega arith)
curves_line_go pen p (a ∷ b ∷ c ∷ d ∷ []) r l h k = absurd (omega arith)
curves_line_go pen p (a ∷ b ∷ c ∷ d ∷ e ∷ []) r l h k = absurd (omega arith)
curves_line_go pen p (a ∷ b ∷ c ∷ d ∷ e ∷ f ∷ xs) r l h k = more_of (curve_at pen.at a b c d e f) (λ at. curves_line at xs) pen p r h k

pub curves_line_lost : (pen : Pen) (xs : List ℤ) → 6 ≤ length xs
    → None ≡ traced (curve_at pen.at (get_or xs 0 (pos 0)) (get_or xs 1 (pos 0)) (get_or xs 2 (pos 0)) (get_or xs 3 (pos 0)) (get_or xs 4 (pos 0)) (get_or xs 5 (pos 0))) pen
    → None ≡ traced (curves_line pen.at xs) pen
curves_line_lost pen [] l h = absurd (omega arith)
curves_line_lost pen (a ∷ []) l h = absurd (omega arith)
curves_line_lost pen (a ∷ b ∷ []) l h = absurd (omega arith)
curves_line_lost pen (a ∷ b ∷ c ∷ []) l h = absurd (omega arith)
curves_line_lost pen (a ∷ b ∷ c ∷ d ∷ []) l h = absurd (omega arith)
curves_line_lost pen (a ∷ b ∷ c ∷ d ∷ e ∷ []) l h = absurd (omega arith)
curves_line_lost pen (a ∷ b ∷ c ∷ d ∷ e ∷ f ∷ xs) l h = lost_of (curve_at pen.at a b c d e f) (curves_line (point_after pen.at (curve_at pen.at a b c d e f)) xs) pen h

-- ---- lines, and then a curve
pub six_curve : (at : Position) (xs : List ℤ) → length xs ≡ 6 → curves at xs ≡ lines_curve at xs
six_curve at [] l = absurd (omega arith)
six_curve at (a ∷ []) l = absurd (omega arith)
six_curve at (a ∷ b ∷ []) l = absurd (omega arith)
six_curve at (a ∷ b ∷ c ∷ []) l = absurd (omega arith)
six_curve at (a ∷ b ∷ c ∷ d ∷ []) l = absurd (omega arith)
six_curve at (a ∷ b ∷ c ∷ d ∷ e ∷ []) l = absurd (omega arith)
six_curve at (a ∷ b ∷ c ∷ d ∷ e ∷ f ∷ []) l = refl
six_curve at (a ∷ b ∷ c ∷ d ∷ e ∷ f ∷ g ∷ xs) l = absurd (omega arith)

pub lines_only : (at : Position) (xs : List ℤ) → length xs < 8 → (length xs ≡ 6 → ⊥) → lines at xs ≡ lines_curve at xs
lines_only at [] l n = refl
lines_only at (a ∷ []) l n = refl
lines_only at (a ∷ b ∷ []) l n = refl
lines_only at (a ∷ b ∷ c ∷ []) l n = refl
lines_only at (a ∷ b ∷ c ∷ d ∷ []) l n = refl
lines_only at (a ∷ b ∷ c ∷ d ∷ e ∷ []) l n = refl
lines_only at (a ∷ b ∷ c ∷ d ∷ e ∷ f ∷ []) l n = absurd (n refl)
lines_only at (a ∷ b ∷ c ∷ d ∷ e ∷ f ∷ g ∷ []) l n = refl
lines_only at (a ∷ b ∷ c ∷ d ∷ e ∷ f ∷ g ∷ h ∷ xs) l n = absurd (omega arith)

pub lines_curve_go : (pen p : Pen) (xs : List ℤ) (r : Option Pen) → 2 ≤ length xs → (length xs ≡ 6 → ⊥) → Some p ≡ visited (by (get_or xs 0 (pos 0)) (get_or xs 1 (pos 0)) pen.at) pen → p.at ≡ by (get_or xs 0 (pos 0)) (get_or xs 1 (pos 0)) pen.at
    → r ≡ traced (lines_curve p.at (drop 2 xs)) p → r ≡ traced (lines_curve pen.at xs) pen
lines_curve_go pen p [] r l n h e k = absurd (omega arith)
lines_curve_go pen p (a ∷ []) r l n h e k = absurd (omega arith)
lines_curve_go pen p (a ∷ b ∷ xs) r l n h e k =
    k ∙ ap (λ (at : Position). traced (lines_curve at xs) p) e ∙ ap (λ (o : Option Pen). option_and_then (traced (lines_curve (by a b pen.at) xs)) o) h
    ∙ ap (λ (s : List Segment). traced s pen) (sym (line_first pen.at a b xs (λ four. n (omega (arith, four)))))

-- ---- curves that begin and end horizontal, or vertical
pub horizontal_go : (pen p : Pen) (xs : List ℤ) (r : Option Pen) → 4 ≤ length xs
    → Some p ≡ traced (curve_at pen.at (get_or xs 0 (pos 0)) (pos 0) (get_or xs 1 (pos 0)) (get_or xs 2 (pos 0)) (get_or xs 3 (pos 0)) (pos 0)) pen
    → r ≡ traced (horizontal_curves p.at (drop 4 xs)) p → r ≡ traced (horizontal_curves pen.at xs) pen
horizontal_go pen p [] r l h k = absurd (omega arith)
horizontal_go pen p (a ∷ []) r l h k = absurd (omega arith)
horizontal_go pen p (a ∷ b ∷ []) r l h k = absurd (omega arith)
horizontal_go pen p (a ∷ b ∷ c ∷ []) r l h k = absurd (omega arith)
horizontal_go pen p (a ∷ b ∷ c ∷ d ∷ xs) r l h k =
    more_of (horizontal_curves pen.at (a ∷ b ∷ c ∷ d ∷ [])) (λ at. horizontal_curves at xs) pen p r (h ∙ ap (λ (s : List Segment). traced s pen) (horizontal_is pen.at a b c d)) k

pub horizontal_lost : (pen : Pen) (xs : List ℤ) → 4 ≤ length xs
    → None ≡ traced (curve_at pen.at (get_or xs 0 (pos 0)) (pos 0) (get_or xs 1 (pos 0)) (get_or xs 2 (pos 0)) (get_or xs 3 (pos 0)) (pos 0)) pen
    → None ≡ traced (horizontal_curves pen.at xs) pen
horizontal_lost pen [] l h = absurd (omega arith)
horizontal_lost pen (a ∷ []) l h = absurd (omega arith)
horizontal_lost pen (a ∷ b ∷ []) l h = absurd (omega arith)
horizontal_lost pen (a ∷ b ∷ c ∷ []) l h = absurd (omega arith)
horizontal_lost pen (a ∷ b ∷ c ∷ d ∷ xs) l h =
    let one : List Segment = horizontal_curves pen.at (a ∷ b ∷ c ∷ d ∷ []) in
    lost_of one (horizontal_curves (point_after pen.at one) xs) pen (h ∙ ap (λ (s : List Segment). traced s pen) (horizontal_is pen.at a b c d))

pub vertical_go : (pen p : Pen) (xs : List ℤ) (r : Option Pen) → 4 ≤ length xs
    → Some p ≡ traced (curve_at pen.at (pos 0) (get_or xs 0 (pos 0)) (get_or xs 1 (pos 0)) (get_or xs 2 (pos 0)) (pos 0) (get_or xs 3 (pos 0))) pen
    → r ≡ traced (vertical_curves p.at (drop 4 xs)) p → r ≡ traced (vertical_curves pen.at xs) pen
vertical_go pen p [] r l h k = absurd (omega arith)
vertical_go pen p (a ∷ []) r l h k = absurd (omega arith)
vertical_go pen p (a ∷ b ∷ []) r l h k = absurd (omega arith)
vertical_go pen p (a ∷ b ∷ c ∷ []) r l h k = absurd (omega arith)
vertical_go pen p (a ∷ b ∷ c ∷ d ∷ xs) r l h k =
    more_of (vertical_curves pen.at (a ∷ b ∷ c ∷ d ∷ [])) (λ at. vertical_curves at xs) pen p r (h ∙ ap (λ (s : List Segment). traced s pen) (vertical_is pen.at a b c d)) k

pub vertical_lost : (pen : Pen) (xs : List ℤ) → 4 ≤ length xs
    → None ≡ traced (curve_at pen.at (pos 0) (get_or xs 0 (pos 0)) (get_or xs 1 (pos 0)) (get_or xs 2 (pos 0)) (pos 0) (get_or xs 3 (pos 0))) pen
    → None ≡ traced (vertical_curves pen.at xs) pen
vertical_lost pen [] l h = absurd (omega arith)
vertical_lost pen (a ∷ []) l h = absurd (omega arith)
vertical_lost pen (a ∷ b ∷ []) l h = absurd (omega arith)
vertical_lost pen (a ∷ b ∷ c ∷ []) l h = absurd (omega arith)
vertical_lost pen (a ∷ b ∷ c ∷ d ∷ xs) l h =
    let one : List Segment = vertical_curves pen.at (a ∷ b ∷ c ∷ d ∷ []) in
    lost_of one (vertical_curves (point_after pen.at one) xs) pen (h ∙ ap (λ (s : List Segment). traced s pen) (vertical_is pen.at a b c d))
