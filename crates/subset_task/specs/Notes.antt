-- What is noted of coordinates that a font doesn't have.
use Rattle.std.specs.Prelude.{ℤ, int_lt, if◌then◌else◌, List, [], ◌∷◌, ◌++◌, Option, Some, None}
use Rattle.subsetter_base.specs.declared.tag.Tag.{Tag}
use Rattle.subsetter_variation.specs.declared.locations.axes.Axis.{Axis}
use Rattle.subset_lines.specs.declared.notes.Note.{Note}
use Rattle.subset_lines.specs.declared.notes.Note.TheVariants.{NoAxis, Clamped}
use Rattle.subset_task.specs.Faces.Axes.{find_axis}

-- the ends of an axis: its default is no less than the one and no greater than the other
abbrev pub least : Axis → ℤ
least a = if int_lt a.minimum a.default then a.minimum else a.default

abbrev pub greatest : Axis → ℤ
greatest a = if int_lt a.default a.maximum then a.maximum else a.default

-- a coordinate outside is taken as the end that is next to it
abbrev pub clamped : Axis → Tag × ℤ → Option Note
clamped a s =
    if int_lt s.1 (least a) then Some (Clamped s.0 s.1 (least a))
    else if int_lt (greatest a) s.1 then Some (Clamped s.0 s.1 (greatest a))
    else None

abbrev pub note_by : Option Axis → Tag × ℤ → Option Note
note_by None s = Some (NoAxis s.0)
note_by (Some a) s = clamped a s

abbrev pub note_of : List Axis → Tag × ℤ → Option Note
note_of axes s = note_by (find_axis axes s.0) s

abbrev pub if_noted : Option Note → List Note
if_noted None = []
if_noted (Some note) = note ∷ []

-- a note for each coordinate that needs one
abbrev pub notes_of : List Axis → List (Tag × ℤ) → List Note
notes_of axes [] = []
notes_of axes (s ∷ settings) = if_noted (note_of axes s) ++ notes_of axes settings

abbrev pub notes_for : List Axis → Option (List (Tag × ℤ)) → List Note
notes_for axes None = []
notes_for axes (Some at) = notes_of axes at
