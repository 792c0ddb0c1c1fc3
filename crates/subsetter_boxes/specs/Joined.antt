-- The least box around boxes (Technical Note 5176, section 9, "FontBBox").
use Rattle.std.specs.Prelude.{ℤ, pos, List, [], ◌∷◌, Option, Some, None}
use Rattle.std.specs.Int.{int_max, int_min}
use Rattle.std.specs.List.{fold}
use Rattle.subsetter_points.specs.declared.bounds.Bounds.{Bounds}

-- the least box around two
abbrev pub around : Bounds → Bounds → Bounds
around a b =
    record {
      x_min = int_min a.x_min b.x_min;
      y_min = int_min a.y_min b.y_min;
      x_max = int_max a.x_max b.x_max;
      y_max = int_max a.y_max b.y_max;
    }

abbrev pub joined : Option Bounds → Option Bounds → Option Bounds
joined None b = b
joined (Some a) None = Some a
joined (Some a) (Some b) = Some (around a b)

-- around those that are there
abbrev pub least_box : List (Option Bounds) → Option Bounds
least_box boxes = fold joined None boxes

-- FontBBox: xMin, yMin, xMax and yMax, 0 where no glyph has a box
abbrev pub font_box : Option Bounds → List ℤ
font_box None = pos 0 ∷ pos 0 ∷ pos 0 ∷ pos 0 ∷ []
font_box (Some b) = b.x_min ∷ b.y_min ∷ b.x_max ∷ b.y_max ∷ []
