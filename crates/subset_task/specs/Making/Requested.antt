-- Which glyphs a task asks for of a font.
use Rattle.std.specs.Prelude.{◌≡◌, ℕ, ◌&&◌, nat_lt, Bool, if◌then◌else◌, List, [], ◌∷◌, length, Option, Some, None}
use Rattle.std.specs.Prelude.{Result, Ok, Err, codes}
use Rattle.std.specs.Option.{option_and_then, option_map}
use Rattle.std.specs.Str.{chars}
use Rattle.subsetter_base.specs.declared.error.Error.TheVariants.{UnknownKind, MalformedFont}
use Rattle.subsetter_sfnt.specs.Fields.Maxp.{num_glyphs}
use Rattle.subsetter_sfnt.specs.Read.{Font, kind_at, stored}
use Rattle.subsetter_sfnt.specs.declared.face.FontKind.{FontKind}
use Rattle.text_glyphs.specs.Faces.{face_source}
use Rattle.subset_args.specs.Listing.Lists.{counting}
use Rattle.subset_task.specs.Making.Picked.{Picked, nothing, both, bare, of_text, of_characters}
use Rattle.subset_task.specs.declared.task.Requests.{Requests}
use Rattle.subset_task.specs.declared.task.RequestedGlyphs.{RequestedGlyphs}
use Rattle.subset_task.specs.declared.task.RequestedGlyphs.TheVariants.{These, Every, ByText, ByCharacters}
use Rattle.subset_task.specs.declared.refusals.failure.Failure.{Failure}
use Rattle.subset_task.specs.declared.refusals.failure.Failure.TheVariants.{Error, NoMapping, MissingCharacters}

-- a file that is no font by its first bytes (OpenType, "Organization of an OpenType Font") lacks all tables
abbrev pub unless_no_kind : Option FontKind → Failure → Failure
unless_no_kind (Some kind) failure = failure
unless_no_kind None failure = Error UnknownKind

abbrev pub unless_no_font : List ℕ → Failure → Failure
unless_no_font bytes failure = unless_no_kind (kind_at bytes 0) failure

abbrev pub or_failure : Failure → Option Picked → Result Picked Failure
or_failure failure None = Err failure
or_failure failure (Some picked) = Ok picked

-- numGlyphs of `maxp` (OpenType, "maxp")
abbrev pub face_glyphs : Font → Option ℕ
face_glyphs font = option_and_then num_glyphs (stored font (codes "maxp"))

-- the glyphs of one request, or why there are none: the face doesn't say how many it has, or has no table of characters
abbrev pub picked_of : Font → RequestedGlyphs → Result Picked Failure
picked_of font (These given) = Ok (bare given.now)
picked_of font Every =
    or_failure (unless_no_font font.bytes (Error MalformedFont))
    (option_map (λ count. bare (counting 0 count)) (face_glyphs font))
picked_of font (ByText text) =
    or_failure (unless_no_font font.bytes NoMapping)
    (option_map (λ source. of_text source (chars text.now)) (face_source font))
picked_of font (ByCharacters given) =
    or_failure (unless_no_font font.bytes NoMapping)
    (option_map (λ source. of_characters source given.now) (face_source font))

-- after others
abbrev pub following : Picked → Result Picked Failure → Result Picked Failure
following picked (Ok more) = Ok (both picked more)
following picked (Err failure) = Err failure

abbrev pub with_rest : Result Picked Failure → Result Picked Failure → Result Picked Failure
with_rest (Ok picked) rest = following picked rest
with_rest (Err failure) rest = Err failure

-- those of requests, one after another
abbrev pub picked_each : Font → List RequestedGlyphs → Result Picked Failure
picked_each font [] = Ok nothing
picked_each font (one ∷ more) = with_rest (picked_of font one) (picked_each font more)

-- unless the face lacks a character, where none may be lacking
abbrev pub unless_missing : Bool → Picked → Result Picked Failure
unless_missing is_strict picked =
    if is_strict && nat_lt 0 (length picked.missing) then Err MissingCharacters else Ok picked

abbrev pub unless_any_missing : Bool → Result Picked Failure → Result Picked Failure
unless_any_missing is_strict (Ok picked) = unless_missing is_strict picked
unless_any_missing is_strict (Err failure) = Err failure

abbrev pub picked_for : Font → Requests → Result Picked Failure
picked_for font asked = unless_any_missing asked.is_strict (picked_each font asked.pieces.now)

-- these glyphs are asked for
abbrev pub IsRequested : Font → Requests → Picked → Type 0
IsRequested font asked picked = picked_for font asked ≡ Ok picked

-- or why none are
abbrev pub IsUnasked : Font → Requests → Failure → Type 0
IsUnasked font asked failure = picked_for font asked ≡ Err failure
