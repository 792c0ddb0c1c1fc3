-- What the code's outlines are.
use Rattle.std.specs.Prelude.{ℕ, List}
use Rattle.subsetter_points.specs.declared.outline.Point.{Point}
use Rattle.subsetter_points.specs.declared.outline.Columns.{Columns}
use Rattle.subsetter_points.specs.declared.outline.Outline as code
use Rattle.subsetter_points.specs.Simple.{Outline, contours, points}

-- the contours of the points that the code keeps one after the other
abbrev pub contours_of : code.Outline → Outline
contours_of o = contours 0 o.ends.items o.points.items

-- the ends and the points themselves
abbrev pub parts_of : code.Outline → List ℕ × List Point
parts_of o = (o.ends.items, o.points.items)

-- the ends and the points, each of a flag and its coordinates
abbrev pub parts_of_columns : Columns → List ℕ × List Point
parts_of_columns c = (c.ends.items, points c.flags.items c.xs.items c.ys.items)
