-- The box around points, by all of their coordinates.
use Rattle.std.proofs.Common.{◌≡◌, List, [], ◌∷◌, refl, ap}
use Rattle.std.specs.List.{fold}
use Rattle.std.specs.Int.{int_min, int_max}
use Rattle.subsetter_points.specs.declared.bounds.Bounds.{Bounds}
use Rattle.subsetter_points.specs.declared.outline.Point.{Point}
use Rattle.subsetter_points.specs.Bounds.{with_point, box_around, bounds_bytes}
use Rattle.subsetter_points.specs.Simple.{box, xs_of, ys_of}

pub grown : (b : Bounds) (points : List Point) → fold with_point b points ≡ record { x_min = fold int_min b.x_min (xs_of points); y_min = fold int_min b.y_min (ys_of points); x_max = fold int_max b.x_max (xs_of points); y_max = fold int_max b.y_max (ys_of points) }
grown b [] = refl
grown b (p ∷ points) = grown (with_point b p) points

pub bytes_of_box : (p : Point) (points : List Point) → bounds_bytes (box_around p points) ≡ box p points
bytes_of_box p points = ap (λ (b : Bounds). bounds_bytes b) (grown (record { x_min = p.x; y_min = p.y; x_max = p.x; y_max = p.y }) points)
