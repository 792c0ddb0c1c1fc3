-- The least box around an outline of `CFF `: around the ends and the control points of its segments (ISO 32000-1, Table
-- 122, "FontBBox"; Technical Note 5177, section 4.1).
use Rattle.std.specs.Prelude.{ℕ, ◌-◌, ◌==◌, ℤ, if◌then◌else◌, List, [], ◌∷◌, length, take, slice_index, Option, Some}
use Rattle.std.specs.Prelude.{None, option_map}
use Rattle.std.specs.Option.{option_and_then, option_or}
use Rattle.std.specs.Result.{result_ok}
use Rattle.subsetter_base.specs.Options.{◌>>=◌}
use Rattle.subsetter_cffdata.specs.Numerals.CharStringNumber.{number_at}
use Rattle.subsetter_blend.specs.declared.writing.placing.Position.{Position}
use Rattle.subsetter_blend.specs.Drawing.{events_drawn}
use Rattle.subsetter_blend.specs.Drawn.{Segment, Move, Line, Curve}
use Rattle.subsetter_blend.specs.Runs.Machine.{Setting, events}
use Rattle.subsetter_blend.specs.Runs.Number.{is_within, whole}
use Rattle.subsetter_blend.specs.Writing.Placed.{is_short, origin}
use Rattle.subsetter_points.specs.declared.bounds.Bounds.{Bounds}
use Rattle.subsetter_boxes.specs.Joined.{joined}

-- ---- the outline
-- no subroutines, and no data to vary by
abbrev pub alone : Setting
alone = record { library = record { global = []; local = [] }; scalars = λ data_index. None }

-- what a charstring of CFF2 draws that calls no subroutines and doesn't vary; a token has at least one byte, and a
-- table fewer than 2^32
abbrev pub outline : List ℕ → Option (List Segment)
outline charstring = option_map (events_drawn origin) (result_ok (events alone 4294967295 1 0 charstring))

-- ---- its box
-- the points of segments: the end of each, and of a curve its two control points
abbrev pub points : List Segment → List Position
points [] = []
points (Move to ∷ segments) = to ∷ points segments
points (Line to ∷ segments) = to ∷ points segments
points (Curve first second to ∷ segments) = first ∷ second ∷ to ∷ points segments

-- a coordinate, rounded to units, if it is of 16 bits
unfoldable pub in_units : ℤ → Option ℤ
in_units v = if is_within v then (if is_short (whole v) then Some (whole v) else None) else None

-- the box of one point
abbrev pub point_box : Position → Option Bounds
point_box at = do
  x ← in_units at.x
  y ← in_units at.y
  Some (record { x_min = x; y_min = y; x_max = x; y_max = y })

-- the least box around points, which there is of no points; nothing where one isn't of 16 bits
abbrev pub least : List Position → Option (Option Bounds)
least [] = Some None
least (at ∷ points) = do
  own ← point_box at
  others ← least points
  Some (joined (Some own) others)

-- the box of an outline; none where it has no points or can't be read
unfoldable pub outline_box : List ℕ → Option Bounds
outline_box charstring = do
  segments ← outline charstring
  box ← least (points segments)
  box

-- ---- of a charstring of `CFF `
-- what is after the first number
abbrev pub after_width : List ℕ → Option (List ℕ)
after_width charstring = option_map (λ number. number.1) (number_at charstring)

-- what is before endchar, the last operator
abbrev pub before_endchar : List ℕ → Option (List ℕ)
before_endchar bytes =
    if length bytes == 0 then None
    else if slice_index bytes (length bytes - 1) == 14 then Some (take (length bytes - 1) bytes)
    else None

-- A charstring of CFF2 has neither width nor endchar (OpenType, "CFF2 CharString Format"). So a charstring with a width
-- in front and endchar at its end has one between them, and draws what that one draws.
unfoldable pub charstring_box : List ℕ → Option Bounds
charstring_box charstring = do
  following ← after_width charstring
  body ← before_endchar following
  outline_box body

-- Of a charstring without subroutines, which ends by endchar. A width in front is the operand more than its first
-- operator takes (Technical Note 5177, section 4): with it there is no charstring of CFF2, without it and without
-- endchar there is one, which draws the same.
unfoldable pub flat_box : List ℕ → Option Bounds
flat_box flat = do
  body ← before_endchar flat
  option_or (outline_box body) (option_and_then outline_box (after_width body))
