-- What a glyph is at a place: its unfolded points, rounded, with its advance and its left side bearing (OpenType,
-- "HVAR" and "hmtx").
use Rattle.std.specs.Prelude.{ℕ, ◌^◌, Bool, List, [], ◌∷◌, Option, Some, None, Result, Ok, Err, nat_lt, if◌then◌else◌}
use Rattle.std.specs.Prelude.{ℤ, pos, ◌+ℤ◌, ◌-ℤ◌, int_le, unsigned_abs}
use Rattle.std.specs.Int.{int_min}
use Rattle.std.specs.List.{fold}
use Rattle.std.specs.Option.{ok_or}
use Rattle.subsetter_base.specs.Bytes.{◌>>=◌}
use Rattle.subsetter_base.specs.declared.error.Error.{Error}
use Rattle.subsetter_base.specs.declared.error.Error.TheVariants.{MalformedFont, OverflowError}
use Rattle.subsetter_points.specs.declared.outline.Point.{Point}
use Rattle.subsetter_points.specs.Simple.{has_16_bits, parts_fit, xs_of}
use Rattle.subsetter_variation.specs.Nearest.{nearest}
use Rattle.subsetter_variation.specs.Items.ItemVariations.{whole_or_fault}
use Rattle.subsetter_variation.specs.Items.Advances.{advance_delta}
use Rattle.subsetter_instance.specs.Source.{Source, metric}
use Rattle.subsetter_instance.specs.Glyphs.Unfolded.{Unfolded, unfolded}
use Rattle.subsetter_sfnt.specs.declared.fields.hmtx.LongHorMetric.{LongHorMetric}

-- ---- rounded, once

-- parts of 2^30 as a whole number, halves up
abbrev pub whole : ℤ → ℤ
whole v = nearest v (2 ^ 30)

-- a coordinate has 16 bits
abbrev pub word_or_fault : ℤ → Result ℤ Error
word_or_fault v = if has_16_bits v then Ok v else Err OverflowError

-- a point, of which x begins at the left phantom point
abbrev pub point_or_fault : ℤ → Bool → ℤ → ℤ → Result Point Error
point_or_fault left on x y = do
  across ← word_or_fault (whole (x -ℤ left))
  up ← word_or_fault (whole y)
  Ok (record { x = across; y = up; on_curve = on })

unfoldable pub points_or_fault : ℤ → List Bool → List ℤ → List ℤ → Result (List Point) Error
points_or_fault left (on ∷ more) (x ∷ xs) (y ∷ ys) = do
  p ← point_or_fault left on x y
  rest ← points_or_fault left more xs ys
  Ok (p ∷ rest)
points_or_fault left _ _ _ = Ok []

-- ---- the metric

-- an advance isn't under 0, and has 16 bits
abbrev pub advance_or_fault : ℤ → Result ℕ Error
advance_or_fault v =
    if int_le v (pos 0) then Ok 0
    else if nat_lt (unsigned_abs v) (2 ^ 16) then Ok (unsigned_abs v)
    else Err OverflowError

-- where there is HVAR it says by how much the advance that hmtx has varies, else it is the width between the phantom
-- points
abbrev pub advance : Option (List ℕ) → List ℤ → ℕ → ℕ → ℤ → Result ℕ Error
advance None at g before width = advance_or_fault (whole width)
advance (Some hvar) at g before width =
    whole_or_fault (advance_delta hvar at g) >>= λ d. advance_or_fault (pos before +ℤ d)

-- the left side bearing is the least x, 0 without points
abbrev pub bearing : List Point → ℤ
bearing [] = pos 0
bearing (p ∷ points) = fold int_min p.x (xs_of points)

-- ---- a glyph

-- What is drawn: the ends of the contours, the points, the advance and the left side bearing.
pub record Drawn : Type 0 where
  pub ends : List ℕ
  pub points : List Point
  pub advance : ℕ
  pub bearing : ℤ

-- an outline can be written: each delta between neighbours has 16 bits, and it has no more points and contours than fit
abbrev pub drawn_if_fit : List ℕ → List Point → ℕ → Result Drawn Error
drawn_if_fit ends points width =
    if parts_fit ends points
    then Ok (record { ends = ends; points = points; advance = width; bearing = bearing points })
    else Err OverflowError

-- what is drawn of an unfolded glyph
unfoldable pub rounded : Source → List ℤ → ℕ → LongHorMetric → Unfolded → Result Drawn Error
rounded s at g m u = do
  width ← advance s.hvar at g m.advance_width (u.right -ℤ u.left)
  points ← points_or_fault u.left u.on u.xs u.ys
  drawn_if_fit u.ends points width

-- components of a glyph may lead to components, 64 levels below it
abbrev pub levels : ℕ
levels = 65

-- a glyph at a place, drawn in at most `steps` steps
unfoldable pub drawn : Source → List ℤ → ℕ → ℕ → Result Drawn Error
drawn s at steps g = do
  m ← ok_or (metric s g) MalformedFont
  u ← unfolded levels s at steps g
  rounded s at g m u.0
