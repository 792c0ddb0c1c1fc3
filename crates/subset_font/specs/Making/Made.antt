-- What is made of a font that is read, and why it isn't.
use Rattle.std.specs.Prelude.{◌≡◌, ◌⊎◌, ℕ, ℤ, List, [], map, Option, Some, None, MatchBool}
use Rattle.std.specs.Option.{option_copied}
use Rattle.subsetter_sfnt.specs.Extras.{all_extras}
use Rattle.subsetter.specs.Bound.{IsWithin, HasFaultWithin}
use Rattle.subsetter.specs.Fault.{HasFault}
use Rattle.subsetter_sfnt.specs.FontAt.{font_at}
use Rattle.subsetter_sfnt.specs.Read.{Font}
use Rattle.subsetter.specs.Subset.{IsSubset}
use Rattle.subsetter_base.specs.Indexes.{HasAllAboveZero}
use Rattle.subsetter_base.specs.declared.tag.Tag.{Tag}
use Rattle.subsetter_base.specs.declared.error.Error.{Error as Refusal}
use Rattle.subsetter_base.specs.declared.error.Error.TheVariants.{OutOfMemory, OverflowError}
use Rattle.subsetter_variable.specs.DefaultLocation.{HasStaticFault}
use Rattle.subsetter_variable.specs.Subset.{IsStatic}
use Rattle.cid_embed.specs.Embed.{numbering, HasEmbedFault, HasEmbedFaultWithin}
use Rattle.cid_embed.specs.Text.{width_array}
use Rattle.cid_embed.specs.Width.{width}
use Rattle.subset_lines.specs.Objects.Json.{array_of}
use Rattle.subset_task.specs.Making.Picked.{Picked, picked_view}
use Rattle.subset_task.specs.Making.Requested.{IsRequested, IsUnasked}
use Rattle.subset_task.specs.declared.task.Task.{Task}
use Rattle.subset_task.specs.declared.task.Form.{Form}
use Rattle.subset_task.specs.declared.task.Form.TheVariants.{Lines, Json, Silence}
use Rattle.subset_font.specs.declared.making.subset.Made.{Made}
use Rattle.subset_task.specs.declared.refusals.failure.Failure.{Failure}
use Rattle.subset_task.specs.declared.refusals.failure.Failure.TheVariants.{Error}

-- the face that is read, with all that it has
abbrev pub face_of : Task → List ℕ → Font
face_of task bytes = record { bytes = bytes; index = task.index; extras = all_extras }

-- the same, as far as it is asked for
abbrev pub font_of : Task → List ℕ → Font
font_of task bytes = record { bytes = bytes; index = task.index; extras = task.options.extras }

-- a subset of a font that has no fault, within two limits on the run of a charstring, the size limits being judged for
-- the subset's order of glyphs
abbrev pub IsFaultless : ℕ → ℕ → Font → List ℕ → List ℕ → Type 0
IsFaultless tokens depth font glyphs out =
    (s : IsSubset tokens depth font (numbering glyphs) out)
    × ((e : Refusal) → ¬ (HasFault tokens depth font (numbering glyphs) s.keeps.order e))

-- a subset of a font that has no fault, nor one of the widths of the asked glyphs
abbrev pub IsFaultlessWithWidths : ℕ → ℕ → Font → List ℕ → List ℕ → Type 0
IsFaultlessWithWidths tokens depth font glyphs out =
    (s : IsSubset tokens depth font (numbering glyphs) out)
    × ((e : Refusal) → ¬ (HasEmbedFault tokens depth font glyphs s.keeps.order e))

-- the font that is subset: as it is given, or the static font that it is at user coordinates, where these are said
pub data IsTaken (task : Task) (bytes glyphs : List ℕ) : Font → Type 0 where
  as_given : option_copied task.at ≡ None → IsTaken task bytes glyphs (font_of task bytes)
  placed : (at : List (Tag × ℤ)) (static : Font) → option_copied task.at ≡ Some at
      → IsStatic (font_of task bytes) at (numbering glyphs) static
      → IsTaken task bytes glyphs static

-- a faultless subset of the font for the asked glyphs, also for its widths where they are told
abbrev pub IsCleanSubset : Task → Font → List ℕ → List ℕ → Type 0
IsCleanSubset task font glyphs out =
    MatchBool task.widths (IsFaultlessWithWidths task.options.limits.tokens task.options.limits.depth font glyphs out)
    (IsFaultless task.options.limits.tokens task.options.limits.depth font glyphs out)

-- the text of widths: the value of `W` in a PDF, or in JSON an array
abbrev pub width_text : Form → List ℕ → List ℕ
width_text Lines widths = width_array widths
width_text Json widths = array_of widths
width_text Silence widths = width_array widths

-- the text of the widths of glyph 0 and the asked glyphs, in the order of their new numbers
pub record IsWidthText (form : Form) (font : Font) (glyphs text : List ℕ) : Type 0 where
  pub widths : List ℕ
  pub are : map Some widths ≡ map (width font) (numbering glyphs)
  pub text_is : text ≡ width_text form widths

-- the text that is told last: the widths, where they are asked for, and else nothing
abbrev pub IsLastText : Task → Font → List ℕ → List ℕ → Type 0
IsLastText task font glyphs text = MatchBool task.widths (IsWidthText task.form font glyphs text) (text ≡ [])

-- what a task makes of the font that is taken
pub record IsMadeOf (task : Task) (font : Font) (glyphs : List ℕ) (made : Made) : Type 0 where
  pub order : made.mapper ≡ numbering glyphs
  pub subset : IsCleanSubset task font glyphs made.font.items
  -- no longer than it may be
  pub within : IsWithin task.options.limits.bytes made.font.items
  pub text : IsLastText task font glyphs made.text.items

-- what a task makes of the bytes of a font
pub record IsMade (task : Task) (bytes : List ℕ) (made : Made) : Type 0 where
  pub requested : IsRequested (face_of task bytes) task.requested (picked_view made.picked)
  pub font : Font
  pub taken : IsTaken task bytes made.picked.glyphs.items font
  pub is_made : IsMadeOf task font made.picked.glyphs.items made

-- the given glyphs leave no number for glyph 0, or the font has a fault, or a bound is set that every subset passes
abbrev pub IsRefusal : Option ℕ → ℕ → ℕ → Font → List ℕ → Refusal → Type 0
IsRefusal bound tokens depth font glyphs why =
    ((why ≡ OverflowError) × HasAllAboveZero glyphs)
    ⊎ ((order : List ℕ) × HasFaultWithin bound tokens depth font (numbering glyphs) order why)

-- or one against its widths
abbrev pub IsRefusalOfWidths : Option ℕ → ℕ → ℕ → Font → List ℕ → Refusal → Type 0
IsRefusalOfWidths bound tokens depth font glyphs why =
    (order : List ℕ) × HasEmbedFaultWithin bound tokens depth font glyphs order why

-- why there is no subset of the font that is taken
abbrev pub IsRefused : Task → Font → List ℕ → Refusal → Type 0
IsRefused task font glyphs why =
    MatchBool task.widths
    (IsRefusalOfWidths task.options.limits.bytes task.options.limits.tokens task.options.limits.depth font glyphs why)
    (IsRefusal task.options.limits.bytes task.options.limits.tokens task.options.limits.depth font glyphs why)

-- why no font is taken: at user coordinates the glyphs leave no number for glyph 0, or the static font has a fault
pub data IsUntaken (task : Task) (bytes glyphs : List ℕ) : Refusal → Type 0 where
  unnumbered : HasAllAboveZero glyphs → IsUntaken task bytes glyphs OverflowError
  unplaced : {why : Refusal} (at : List (Tag × ℤ)) → option_copied task.at ≡ Some at
      → HasStaticFault (face_of task bytes) at (numbering glyphs)
      task.options.limits.tokens task.options.limits.depth why
      → IsUntaken task bytes glyphs why

pub data HasRefusal (task : Task) (bytes glyphs : List ℕ) (why : Refusal) : Type 0 where
  untaken : IsUntaken task bytes glyphs why → HasRefusal task bytes glyphs why
  of_taken : (font : Font) → IsTaken task bytes glyphs font → IsRefused task font glyphs why
      → HasRefusal task bytes glyphs why

-- a failure that names a refusal
pub record IsRefusedFace (task : Task) (font : Font) (glyphs : List ℕ) (failure : Failure) : Type 0 where
  pub why : Refusal
  pub failure_is : failure ≡ Error why
  pub refused : IsRefused task font glyphs why

-- the asked glyphs are refused
pub record IsRefusedTask (task : Task) (bytes : List ℕ) (failure : Failure) : Type 0 where
  pub picked : Picked
  pub requested : IsRequested (face_of task bytes) task.requested picked
  pub why : Refusal
  pub failure_is : failure ≡ Error why
  pub refused : HasRefusal task bytes picked.glyphs why

-- the font that is taken, by the file of the static font, if there is one
abbrev pub taken_of : Task → List ℕ → Option (List ℕ) → Font
taken_of task bytes None = font_of task bytes
taken_of task bytes (Some file) = font_at file 0 task.options.extras

-- why nothing is made of the bytes of a font: memory ran out, no glyphs are found, or they are refused
abbrev pub IsUnmade : Task → List ℕ → Failure → Type 0
IsUnmade task bytes failure =
    (failure ≡ Error OutOfMemory)
    ⊎ (IsUnasked (face_of task bytes) task.requested failure ⊎ IsRefusedTask task bytes failure)
