-- What is shown of the outlines and the axes of a face.
use Rattle.std.specs.Prelude.{◌≡◌, ◌⊎◌, ℕ, Bool, true, false, if◌then◌else◌, List, [], ◌∷◌, Option, Some, None, codes}
use Rattle.std.specs.Option.{option_map, option_and_then, unwrap_or}
use Rattle.std.specs.Str.{bytes_eq}
use Rattle.std.specs.Io.KnownBytes.{Appends}
use Rattle.subsetter_base.specs.declared.error.Error.TheVariants.{UnknownKind, MalformedFont}
use Rattle.subsetter_base.specs.declared.tag.Tag.{Tag}
use Rattle.subsetter_sfnt.specs.Read.{Font, header_offset, stored}
use Rattle.subsetter_variation.specs.Locations.Axes.{axes}
use Rattle.subsetter_variation.specs.declared.locations.axes.Axis.{Axis}
use Rattle.subset_lines.specs.Faces.Axes.{instances, text_of}
use Rattle.subset_lines.specs.Objects.AxesJson.{axes_json}
use Rattle.subset_lines.specs.declared.faces.outlines.Outlines.{Outlines}
use Rattle.subset_task.specs.Faces.Outlines.{outlines_of}
use Rattle.subset_task.specs.declared.refusals.failure.Failure.{Failure}
use Rattle.subset_task.specs.declared.refusals.failure.Failure.TheVariants.{Error}

-- what is shown of outlines, and of `fvar`, where it can be read, with the names of `name`: lines, or one JSON object
abbrev pub axes_shown : Bool → Outlines → Bool → List Axis → List ℕ → List (List ℕ) → List ℕ
axes_shown false outlines is_variable axes names records = text_of outlines is_variable axes names records
axes_shown true outlines is_variable axes names records = axes_json outlines is_variable axes names records

abbrev pub text_of_axes : Bool → Outlines → List ℕ → List ℕ → Option (List ℕ)
text_of_axes json outlines names fvar =
    option_and_then (λ a. option_map (axes_shown json outlines true a names) (instances fvar)) (axes fvar)

-- the text of a face; no axes of one that isn't variable
abbrev pub axes_text : Bool → Outlines → List ℕ → Option (List ℕ) → Option (List ℕ)
axes_text json outlines names None = Some (axes_shown json outlines false [] names [])
axes_text json outlines names (Some fvar) = text_of_axes json outlines names fvar

abbrev pub face_text : Bool → Font → Option (List ℕ)
face_text json font =
    axes_text json (outlines_of font) (unwrap_or (stored font (codes "name")) []) (stored font (codes "fvar"))

-- a face's axes were shown
pub record IsAxesReport (json : Bool) (font : Font) (old new : Option (List ℕ)) : Type 0 where
  pub text : List ℕ
  pub is_text : face_text json font ≡ Some text
  pub is_reported : Appends old new text

-- why there are none: the file has no font at its index, or `fvar` can't be read
abbrev pub IsAxesFault : Bool → Font → Failure → Type 0
IsAxesFault json font failure =
    ((failure ≡ Error UnknownKind) × (header_offset font ≡ None))
    ⊎ ((failure ≡ Error MalformedFont) × (face_text json font ≡ None))

-- the axes of a face; none where it isn't variable
abbrev pub axes_or_none : Option (List ℕ) → Option (List Axis)
axes_or_none None = Some []
axes_or_none (Some fvar) = axes fvar

abbrev pub axes_known_of : Option (List Axis) → List Axis
axes_known_of None = []
axes_known_of (Some axes) = axes

-- the axes of a face; none where they can't be read
abbrev pub axes_known : Font → List Axis
axes_known font = axes_known_of (axes_or_none (stored font (codes "fvar")))

-- the first axis that bears a tag
abbrev pub find_axis : List Axis → Tag → Option Axis
find_axis [] tag = None
find_axis (a ∷ axes) tag = if bytes_eq a.tag.0 tag.0 then Some a else find_axis axes tag
