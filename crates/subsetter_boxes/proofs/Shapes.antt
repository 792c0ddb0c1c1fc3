-- Paths by the number of their operands.
use Rattle.std.proofs.Common.{◌≡◌, ℤ, pos, ◌<◌, Bool, true, false, List, [], ◌∷◌, ◌++◌, length, refl, ap, arith}
use Rattle.std.specs.Prelude.{not}
use Rattle.subsetter_blend.specs.declared.writing.placing.Position.{Position}
use Rattle.subsetter_blend.specs.Axes.{along_y}
use Rattle.subsetter_blend.specs.Drawn.{Line, Curve, by, curves_line, lines_curve, alternating_curves, point_after}
use Rattle.subsetter_blend.specs.Writing.Placed.{position_after}
use Rattle.subsetter_boxes.proofs.Fronts.{plus_none}

-- ---- too few operands draw nothing
pub curves_line_short : (at : Position) (xs : List ℤ) → length xs < 6 → (length xs ≡ 2 → ⊥) → curves_line at xs ≡ []
curves_line_short at [] h n = refl
curves_line_short at (a ∷ []) h n = refl
curves_line_short at (a ∷ b ∷ []) h n = absurd (n refl)
curves_line_short at (a ∷ b ∷ c ∷ []) h n = refl
curves_line_short at (a ∷ b ∷ c ∷ d ∷ []) h n = refl
curves_line_short at (a ∷ b ∷ c ∷ d ∷ e ∷ []) h n = refl
curves_line_short at (a ∷ b ∷ c ∷ d ∷ e ∷ f ∷ xs) h n = absurd (omega arith)

-- ---- the first part, and the others
pub line_first : (at : Position) (dx dy : ℤ) (rest : List ℤ) → (length rest ≡ 4 → ⊥) → lines_curve at (dx ∷ dy ∷ rest) ≡ Line (by dx dy at) ∷ lines_curve (by dx dy at) rest
line_first at dx dy [] n = refl
line_first at dx dy (a ∷ []) n = refl
line_first at dx dy (a ∷ b ∷ []) n = refl
line_first at dx dy (a ∷ b ∷ c ∷ []) n = refl
line_first at dx dy (a ∷ b ∷ c ∷ d ∷ []) n = absurd (n refl)
line_first at dx dy (a ∷ b ∷ c ∷ d ∷ e ∷ rest) n = refl

-- a curve in front, with a last operand that says nothing
pub alternating_first : (v : Bool) (at : Position) (a b c d : ℤ) (rest : List ℤ) → (length rest ≡ 1 → ⊥)
    → alternating_curves v at (a ∷ b ∷ c ∷ d ∷ rest) ≡ alternating_curves v at (a ∷ b ∷ c ∷ d ∷ []) ++ alternating_curves (not v) (point_after at (alternating_curves v at (a ∷ b ∷ c ∷ d ∷ []))) rest
alternating_first true at a b c d [] n = refl
alternating_first true at a b c d (x ∷ []) n = absurd (n refl)
alternating_first true at a b c d (x ∷ y ∷ rest) n = refl
alternating_first false at a b c d [] n = refl
alternating_first false at a b c d (x ∷ []) n = absurd (n refl)
alternating_first false at a b c d (x ∷ y ∷ rest) n = refl

pub alternating_four : (v : Bool) (at : Position) (a b c d : ℤ) → alternating_curves v at (a ∷ b ∷ c ∷ d ∷ pos 0 ∷ []) ≡ alternating_curves v at (a ∷ b ∷ c ∷ d ∷ [])
alternating_four true at a b c d =
    let first : Position = position_after (along_y true) a at in
    let second : Position = by b c first in
    ap (λ (y : ℤ). Curve first second (record { x = (position_after (along_y false) d second).x; y = y }) ∷ []) (plus_none second.y)
alternating_four false at a b c d =
    let first : Position = position_after (along_y false) a at in
    let second : Position = by b c first in
    ap (λ (x : ℤ). Curve first second (record { x = x; y = (position_after (along_y true) d second).y }) ∷ []) (plus_none second.x)
