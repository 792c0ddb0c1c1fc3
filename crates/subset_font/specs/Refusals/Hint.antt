-- What a second line says of a font that is refused.
use Rattle.std.specs.Prelude.{ℕ, if◌then◌else◌, Bool, true, false, List, Option, Some, None, is_some, codes}
use Rattle.std.specs.Option.{option_map}
use Rattle.subsetter_base.specs.declared.error.Error.{Error as Refusal}
use Rattle.subsetter_base.specs.declared.error.Error.TheVariants.{UnknownKind, MalformedFont, Unimplemented}
use Rattle.subsetter_base.specs.declared.error.Error.TheVariants.{SubsetError, OverflowError, CFFError, OutOfMemory}
use Rattle.subsetter_sfnt.specs.Extras.{all_extras}
use Rattle.subsetter_sfnt.specs.Read.{Font as Face, find_record, records, stored}
use Rattle.subsetter_sfnt.specs.declared.face.TableRecord.{TableRecord}
use Rattle.font_reasons.specs.Directory.{bytes_or_none, records_in}
use Rattle.font_reasons.specs.Characters.{no_mapping}
use Rattle.font_reasons.specs.File.{or_else, no_font, missing_table}
use Rattle.font_reasons.specs.declared.reason.Reason.TheVariants.{Forbidden as Prohibited}
use Rattle.pdf_values.specs.declared.permission.Permission.{Permission}
use Rattle.subsetter_sfnt.specs.Fields.Os2.{fs_type}
use Rattle.subset_lines.specs.declared.faces.outlines.Outlines.{Outlines}
use Rattle.subset_lines.specs.declared.faces.outlines.Outlines.TheVariants.{TrueType, Cff, Cff2 as HasCff2, Missing}
use Rattle.subset_task.specs.Faces.Outlines.{outlines_of}
use Rattle.subset_font.specs.Making.Made.{face_of}
use Rattle.subset_task.specs.declared.task.Task.{Task}
use Rattle.subset_task.specs.declared.refusals.failure.Failure.{Failure}
use Rattle.subset_task.specs.declared.refusals.failure.Failure.TheVariants.{Error, NoMapping, MissingCharacters}
use Rattle.subset_task.specs.declared.refusals.failure.Failure.TheVariants.{BlankGlyphs, TextTooLong, NoInstance, NotPermitted}
use Rattle.subset_task.specs.declared.refusals.failure.Failure.TheVariants.{Usage, List as WrongList, Read, ReadList}
use Rattle.subset_task.specs.declared.refusals.failure.Failure.TheVariants.{Write, WritePdf, Output, LongAnswer}
use Rattle.subset_font.specs.declared.refusals.hint.text.Hint.{Hint}
use Rattle.subset_font.specs.declared.refusals.hint.text.Hint.TheVariants.{Font, Cff2, WrongAxes, NoAxes}
use Rattle.subset_font.specs.declared.refusals.hint.text.Hint.TheVariants.{Forbidden}

-- outlines of CFF2
abbrev pub cff2_by : Outlines → Option Hint
cff2_by TrueType = None
cff2_by Cff = None
cff2_by HasCff2 = Some Cff2
cff2_by Missing = None

abbrev pub is_cff2 : Face → Option Hint
is_cff2 font = cff2_by (outlines_of font)

-- they are taken where coordinates are given, and are refused where none are
abbrev pub cff2_without : Bool → Face → Option Hint
cff2_without true font = None
cff2_without false font = is_cff2 font

abbrev pub no_coordinates : Task → List ℕ → Option Hint
no_coordinates task bytes = cff2_without (is_some task.at) (face_of task bytes)

abbrev pub hint_of_error : Refusal → Task → List ℕ → Option Hint
hint_of_error Unimplemented task bytes = no_coordinates task bytes
hint_of_error other task bytes = None

-- why a face has no mapping of Unicode characters, or lacks some: no face, no cmap, none of its tables that are read, or
-- it is cut
abbrev pub hint_of_mapping : Face → Option Hint
hint_of_mapping font = option_map Font (or_else (no_font font) (no_mapping font))

-- what is said after a failure to print axes
abbrev pub axes_hint_of_error : Refusal → List ℕ → ℕ → Option Hint
axes_hint_of_error UnknownKind bytes index =
    option_map Font (no_font (record { bytes = bytes; index = index; extras = all_extras }))
axes_hint_of_error MalformedFont bytes index = Some WrongAxes
axes_hint_of_error Unimplemented bytes index = None
axes_hint_of_error SubsetError bytes index = None
axes_hint_of_error OverflowError bytes index = None
axes_hint_of_error CFFError bytes index = None
axes_hint_of_error OutOfMemory bytes index = None

-- a face without axes: it has no `fvar`, or the file is cut before its end
abbrev pub no_axes_by : Face → Option (List ℕ) → Option TableRecord → Option Hint
no_axes_by font (Some fvar) place = None
no_axes_by font None None = Some NoAxes
no_axes_by font None (Some place) = Some (Font (missing_table font (record { 0 = codes "fvar" })))

abbrev pub no_axes : Face → Option Hint
no_axes font =
    no_axes_by font (stored font (codes "fvar"))
    (find_record (codes "fvar") (records_in (bytes_or_none (records font))))

abbrev pub axes_hint : Failure → List ℕ → ℕ → Option Hint
axes_hint (Error e) bytes index = axes_hint_of_error e bytes index
axes_hint NoMapping bytes index = None
axes_hint NoInstance bytes index = None
axes_hint MissingCharacters bytes index = None
axes_hint BlankGlyphs bytes index = None
axes_hint TextTooLong bytes index = None
axes_hint (NotPermitted permission) bytes index = None
axes_hint Usage bytes index = None
axes_hint (WrongList place) bytes index = None
axes_hint Read bytes index = None
axes_hint (ReadList place) bytes index = None
axes_hint Write bytes index = None
axes_hint WritePdf bytes index = None
axes_hint Output bytes index = None
axes_hint LongAnswer bytes index = None

-- what fsType forbids, by what is permitted (OpenType, "OS/2")
abbrev pub forbidden : Face → Permission → Option Hint
forbidden font permission =
    option_map (λ n. Forbidden (Prohibited n permission)) (fs_type (stored font (codes "OS/2")))

-- what is said after a failure, but for what a second look shows
abbrev pub hint_of : Failure → Task → List ℕ → Option Hint
hint_of (Error e) task bytes = hint_of_error e task bytes
hint_of NoMapping task bytes = hint_of_mapping (face_of task bytes)
hint_of NoInstance task bytes = None
hint_of MissingCharacters task bytes = hint_of_mapping (face_of task bytes)
hint_of BlankGlyphs task bytes = None
hint_of TextTooLong task bytes = None
hint_of (NotPermitted permission) task bytes = forbidden (face_of task bytes) permission
hint_of Usage task bytes = None
hint_of (WrongList place) task bytes = None
hint_of Read task bytes = None
hint_of (ReadList place) task bytes = None
hint_of Write task bytes = None
hint_of WritePdf task bytes = None
hint_of Output task bytes = None
hint_of LongAnswer task bytes = None
