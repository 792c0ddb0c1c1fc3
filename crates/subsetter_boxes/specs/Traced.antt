-- A path that is followed from point to point.
use Rattle.std.specs.Prelude.{List, [], ◌∷◌, Option, Some, None, IfSome, Result, Ok, option_map}
use Rattle.std.specs.Option.{option_and_then}
use Rattle.subsetter_base.specs.declared.error.Error.{Error}
use Rattle.subsetter_blend.specs.declared.writing.placing.Position.{Position}
use Rattle.subsetter_blend.specs.Drawing.{event_drawn}
use Rattle.subsetter_blend.specs.Drawn.{Segment}
use Rattle.subsetter_blend.specs.Writing.Placed.{IsPosition, origin}
use Rattle.subsetter_blend.specs.Writing.Taking.{Event}
use Rattle.subsetter_boxes.specs.Joined.{joined}
use Rattle.subsetter_boxes.specs.declared.pen.Pen.{Pen}
use Rattle.subsetter_boxes.specs.CharstringBox.{point_box, points}

-- the pen after one more point, which its box holds
unfoldable pub visited : Position → Pen → Option Pen
visited to pen = option_map (λ own. record { at = to; bounds = joined pen.bounds (Some own) }) (point_box to)

-- points, one after the other
abbrev pub followed : List Position → Pen → Option Pen
followed [] pen = Some pen
followed (at ∷ points) pen = option_and_then (followed points) (visited at pen)

-- the pen after the points of segments
abbrev pub traced : List Segment → Pen → Option Pen
traced segments pen = followed (points segments) pen

-- the pen after what an event draws
abbrev pub event_traced : Event → Pen → Option Pen
event_traced e pen = traced (event_drawn e pen.at) pen

-- a run's events are followed as long as each point is of 16 bits
abbrev pub taken : Event → Option Pen → Result (Option Pen) Error
taken e pen = Ok (option_and_then (event_traced e) pen)

-- the path begins, without a point
abbrev pub pen_start : Pen
pen_start = record { at = origin; bounds = None }

-- the pen, if there is one, is at a position within 32768 units
abbrev pub IsHeld : Option Pen → Type 0
IsHeld pen = IfSome pen (λ p. IsPosition p.at)
