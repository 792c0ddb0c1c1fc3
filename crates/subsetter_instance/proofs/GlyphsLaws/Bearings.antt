-- The left side bearing is the left side of the box around the points.
use Rattle.std.proofs.Common.{◌≡◌, List, [], ◌∷◌, refl, ap}
use Rattle.subsetter_points.specs.Bounds.{bounds_of}
use Rattle.subsetter_points.specs.declared.bounds.Bounds.{Bounds}
use Rattle.subsetter_points.specs.declared.outline.Point.{Point}
use Rattle.subsetter_points.proofs.BoundsLaws.{grown}
use Rattle.subsetter_instance.specs.Glyphs.Drawn.{bearing}

pub bearing_is : (points : List Point) → (bounds_of points).x_min ≡ bearing points
bearing_is [] = refl
bearing_is (p ∷ points) = ap (λ (b : Bounds). b.x_min) (grown (record { x_min = p.x; y_min = p.y; x_max = p.x; y_max = p.y }) points)
