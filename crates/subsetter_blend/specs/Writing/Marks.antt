-- What the events of a charstring say, in their order: the edges of stems, masks, and what is drawn.
use Rattle.std.specs.Prelude.{ℕ, ◌==◌, ◌||◌, ℤ, Bool, true, false, if◌then◌else◌, List, [], ◌∷◌, ◌++◌, map}
use Rattle.subsetter_cffdata.specs.declared.dicts.operator.OperatorType.{OperatorType}
use Rattle.subsetter_cffdata.specs.declared.dicts.operator.OperatorType.TheVariants.{OneByteOperator, TwoByteOperator}
use Rattle.subsetter_blend.specs.declared.writing.placing.Position.{Position}
use Rattle.subsetter_blend.specs.Drawing.{event_drawn}
use Rattle.subsetter_blend.specs.Drawn.{Segment, rounded_segment, point_after}
use Rattle.subsetter_blend.specs.Runs.Number.{whole}
use Rattle.subsetter_blend.specs.Writing.Stems.{stems_of}
use Rattle.subsetter_blend.specs.Writing.Taking.{Event}

-- an edge of a horizontal or vertical stem, a mask of hintmask or cntrmask, or a segment
pub data Mark : Type 0 where
  Edge : (vertical : Bool) (at : ℤ) → Mark
  Masked : (operator : ℕ) (mask : List ℕ) → Mark
  Draws : (segment : Segment) → Mark

abbrev pub type_masks : OperatorType → List ℕ → List Mark
type_masks (OneByteOperator (b ∷ [])) mask = if b == 19 || b == 20 then Masked b mask ∷ [] else []
type_masks (OneByteOperator _) mask = []
type_masks (TwoByteOperator _) mask = []

-- an event has stems and perhaps a mask, or it draws
abbrev pub marks : List ℤ → List ℤ → List Mark → List Segment → List Mark
marks horizontal vertical masks segments =
    map (λ z. Edge false z) horizontal ++ (map (λ z. Edge true z) vertical ++ (masks ++ map (λ s. Draws s) segments))

abbrev pub event_marks : Event → Position → List Mark
event_marks e at = marks (stems_of false e) (stems_of true e) (type_masks e.operator.0 e.mask) (event_drawn e at)

abbrev pub all_marks : Position → List Event → List Mark
all_marks at [] = []
all_marks at (e ∷ es) = event_marks e at ++ all_marks (point_after at (event_drawn e at)) es

abbrev pub rounded_mark : Mark → Mark
rounded_mark (Edge vertical at) = Edge vertical (whole at)
rounded_mark (Masked operator mask) = Masked operator mask
rounded_mark (Draws segment) = Draws (rounded_segment segment)
