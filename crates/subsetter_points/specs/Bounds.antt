-- The bounding box of points (OpenType, chapter "glyf": xMin, yMin, xMax, yMax).
use Rattle.std.specs.Prelude.{ℕ, List, [], ◌∷◌, ◌++◌, pos}
use Rattle.std.specs.List.{fold}
use Rattle.std.specs.Int.{int_min, int_max}
use Rattle.subsetter_points.specs.declared.bounds.Bounds.{Bounds}
use Rattle.subsetter_points.specs.declared.outline.Point.{Point}
use Rattle.subsetter_points.specs.Simple.{signed_word}

-- the least box around a box and a point
abbrev pub with_point : Bounds → Point → Bounds
with_point b p =
    record {
      x_min = int_min b.x_min p.x;
      y_min = int_min b.y_min p.y;
      x_max = int_max b.x_max p.x;
      y_max = int_max b.y_max p.y;
    }

-- the least box around a point and others, on the curve or not
abbrev pub box_around : Point → List Point → Bounds
box_around p points = fold with_point (record { x_min = p.x; y_min = p.y; x_max = p.x; y_max = p.y }) points

-- the same of points, at 0 where there are none
abbrev pub bounds_of : List Point → Bounds
bounds_of [] = record { x_min = pos 0; y_min = pos 0; x_max = pos 0; y_max = pos 0 }
bounds_of (p ∷ points) = box_around p points

-- xMin, yMin, xMax and yMax, each an int16
abbrev pub bounds_bytes : Bounds → List ℕ
bounds_bytes b = signed_word b.x_min ++ signed_word b.y_min ++ signed_word b.x_max ++ signed_word b.y_max
