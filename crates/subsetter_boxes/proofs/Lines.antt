-- Lines, one after the other.
use Rattle.std.proofs.Common.{◌≡◌, ℤ, pos, ◌≤◌, ◌<◌, Bool, true, false, List, [], ◌∷◌, length, drop, get_or, Option, Some, None, refl, ap, ◌∙◌, arith}
use Rattle.std.specs.Prelude.{not}
use Rattle.std.specs.Option.{option_and_then}
use Rattle.subsetter_blend.specs.declared.writing.placing.Position.{Position}
use Rattle.subsetter_blend.specs.Axes.{along_y}
use Rattle.subsetter_blend.specs.Drawn.{by, lines, alternating_lines}
use Rattle.subsetter_blend.specs.Writing.Placed.{position_after}
use Rattle.subsetter_boxes.specs.declared.pen.Pen.{Pen}
use Rattle.subsetter_boxes.specs.Traced.{visited, traced}

pub lines_lost : (pen : Pen) (xs : List ℤ) → 2 ≤ length xs → None ≡ visited (by (get_or xs 0 (pos 0)) (get_or xs 1 (pos 0)) pen.at) pen
    → None ≡ traced (lines pen.at xs) pen
lines_lost pen [] l h = absurd (omega arith)
lines_lost pen (a ∷ []) l h = absurd (omega arith)
lines_lost pen (a ∷ b ∷ xs) l h = ap (λ (o : Option Pen). option_and_then (traced (lines (by a b pen.at) xs)) o) h

pub few_lines : (pen : Pen) (xs : List ℤ) → length xs < 2 → Some pen ≡ traced (lines pen.at xs) pen
few_lines pen [] l = refl
few_lines pen (a ∷ []) l = refl
few_lines pen (a ∷ b ∷ xs) l = absurd (omega arith)

-- ---- horizontal and vertical
pub turn_go : (v : Bool) (pen p : Pen) (xs : List ℤ) (r : Option Pen) → 1 ≤ length xs → Some p ≡ visited (position_after (along_y v) (get_or xs 0 (pos 0)) pen.at) pen
    → p.at ≡ position_after (along_y v) (get_or xs 0 (pos 0)) pen.at → r ≡ traced (alternating_lines (not v) p.at (drop 1 xs)) p → r ≡ traced (alternating_lines v pen.at xs) pen
turn_go v pen p [] r l h e k = absurd (omega arith)
turn_go true pen p (a ∷ xs) r l h e k =
    k ∙ ap (λ (at : Position). traced (alternating_lines false at xs) p) e ∙ ap (λ (o : Option Pen). option_and_then (traced (alternating_lines false (position_after (along_y true) a pen.at) xs)) o) h
turn_go false pen p (a ∷ xs) r l h e k =
    k ∙ ap (λ (at : Position). traced (alternating_lines true at xs) p) e ∙ ap (λ (o : Option Pen). option_and_then (traced (alternating_lines true (position_after (along_y false) a pen.at) xs)) o) h

pub turn_lost : (v : Bool) (pen : Pen) (xs : List ℤ) → 1 ≤ length xs → None ≡ visited (position_after (along_y v) (get_or xs 0 (pos 0)) pen.at) pen
    → None ≡ traced (alternating_lines v pen.at xs) pen
turn_lost v pen [] l h = absurd (omega arith)
turn_lost true pen (a ∷ xs) l h = ap (λ (o : Option Pen). option_and_then (traced (alternating_lines false (position_after (along_y true) a pen.at) xs)) o) h
turn_lost false pen (a ∷ xs) l h = ap (λ (o : Option Pen). option_and_then (traced (alternating_lines true (position_after (along_y false) a pen.at) xs)) o) h

pub no_turns : (v : Bool) (pen : Pen) (xs : List ℤ) → length xs < 1 → Some pen ≡ traced (alternating_lines v pen.at xs) pen
no_turns v pen [] l = refl
no_turns v pen (a ∷ xs) l = absurd (omega arith)
