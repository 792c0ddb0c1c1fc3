-- The shaper's pens in a run.
use Rattle.std.specs.Prelude.{◌&&◌, Bool, true, false, List, [], ◌∷◌, ℤ, pos, ◌+ℤ◌}
use Rattle.pdf_runs.specs.declared.items.Direction.{Direction}
use Rattle.pdf_runs.specs.declared.items.Item.{Item}
use Rattle.pdf_runs.specs.Laws.{total}
use Rattle.pdf_operators.specs.declared.places.Advance.{Advance}
use Rattle.pdf_operators.specs.declared.places.Stop.{Stop}
use Rattle.pdf_operators.specs.Places.{along, fits}

-- how far the run's pen goes on
abbrev pub advance_of : List Item → Advance
advance_of is = record { x = total (λ (i : Item). i.x_advance) is; y = total (λ (i : Item). i.y_advance) is }

abbrev pub pen_of : ℤ → ℤ → Advance
pen_of x y = record { x = x; y = y }

-- a pen after a glyph
abbrev pub pen_past : Advance → Item → Advance
pen_past a i = pen_of (a.x +ℤ i.x_advance) (a.y +ℤ i.y_advance)

-- whether the shaper's pens have 32 bits after a pen
abbrev pub are_pens : ℤ → ℤ → List Item → Bool
are_pens x y [] = true
are_pens x y (i ∷ is) =
    (fits (x +ℤ i.x_advance) && fits (y +ℤ i.y_advance)) && are_pens (x +ℤ i.x_advance) (y +ℤ i.y_advance) is

abbrev pub end_of : Direction → Advance → ℤ
end_of d a = along d a.x a.y

-- a reader's pen is where the run begins, and the shaper's too, or where it ends
abbrev pub first_pen : Bool → ℤ → ℤ
first_pen false a = pos 0
first_pen true a = a

abbrev pub start : Bool → Advance → Stop
start b a = record { back = pos 0; x = first_pen b a.x; y = first_pen b a.y; at = pos 0; rise = pos 0; is_turned = b }
