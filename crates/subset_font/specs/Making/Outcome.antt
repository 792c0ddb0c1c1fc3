-- What a plan makes of a font that is read, and why it doesn't.
use Rattle.std.specs.Prelude.{◌≡◌, ◌⊎◌, ℕ, ℤ, Bool, true, false, not, ◌&&◌, nat_lt, is_some, if◌then◌else◌, List, []}
use Rattle.std.specs.Prelude.{◌++◌, map, length, Option, Some, None, codes}
use Rattle.std.specs.Borrow.{Bor}
use Rattle.std.specs.Option.{option_copied}
use Rattle.subsetter_base.specs.declared.error.Error.TheVariants.{OutOfMemory, UnknownKind, MalformedFont}
use Rattle.subsetter_base.specs.declared.tag.Tag.{Tag}
use Rattle.subsetter_sfnt.specs.Read.{Font, as_font, kind_at, records, stored}
use Rattle.subsetter_sfnt.specs.declared.face.FontKind.{FontKind}
use Rattle.subsetter_sfnt.specs.declared.face.FontKind.TheVariants.{Collection, Single}
use Rattle.glyph_names.specs.Names.{glyph_name}
use Rattle.subset_lines.specs.Objects.Members.{members}
use Rattle.subset_lines.specs.Faces.Sizes.{sizes_text}
use Rattle.subset_lines.specs.declared.faces.sizes.TableSize.{TableSize}
use Rattle.subset_task.specs.Faces.Axes.{axes_known}
use Rattle.subset_font.specs.Making.Made.{face_of, IsMade, IsUnmade}
use Rattle.subset_lines.specs.declared.faces.outlines.Outlines.{Outlines}
use Rattle.subset_lines.specs.declared.faces.outlines.Outlines.TheVariants.{TrueType, Cff, Cff2, Missing}
use Rattle.subset_task.specs.Faces.Missing.{first_missing}
use Rattle.subset_task.specs.Faces.Named.{face_settings}
use Rattle.subset_task.specs.Faces.Outlines.{outlines_of}
use Rattle.subset_task.specs.Notes.{notes_for}
use Rattle.subset_font.specs.Making.Sheet.{pdf_text, IsSheetIf, IsUnshownIf}
use Rattle.subset_pdf.specs.declared.sheet.Sheet.{Sheet}
use Rattle.font_reasons.specs.Directory.{bytes_or_none, records_in}
use Rattle.subset_task.specs.Faces.Tables.{table_sizes}
use Rattle.subset_task.specs.declared.task.Task.{Task}
use Rattle.subset_task.specs.declared.task.Plan.{Plan}
use Rattle.subset_task.specs.declared.task.Form.{Form}
use Rattle.subset_task.specs.declared.task.Form.TheVariants.{Lines, Json, Silence}
use Rattle.subset_font.specs.declared.making.subset.Made.{Made}
use Rattle.subset_font.specs.declared.making.outcome.Outcome.{Outcome}
use Rattle.subset_task.specs.declared.refusals.failure.Failure.{Failure}
use Rattle.subset_task.specs.declared.refusals.failure.Failure.TheVariants.{Error, NoInstance}

-- ---- what is printed after the numbers

-- the tables of the font that is read and of the new one
abbrev pub sizes_of : Font → List ℕ → List TableSize
sizes_of font new =
    table_sizes (records_in (bytes_or_none (records font))) (records_in (bytes_or_none (records (as_font new))))

abbrev pub sizes_if : Bool → Font → List ℕ → Option (List TableSize)
sizes_if verbose font new = if verbose then Some (sizes_of font new) else None

-- a file that holds one font
abbrev pub is_single : Option FontKind → Bool
is_single (Some Single) = true
is_single (Some Collection) = false
is_single None = false

-- the index of another face than its only one, where an option requests the glyphs
abbrev pub other_face : Bool → Font → Option ℕ
other_face by_option font =
    if by_option && (nat_lt 0 font.index && is_single (kind_at font.bytes 0)) then Some font.index else None

-- the members of a JSON object: sizes, tables with `--verbose`, and notes on the coordinates, on characters without a
-- glyph, and on the face
abbrev pub members_of : Bool → Bool → Option (List (Tag × ℤ)) → Font → Made → List ℕ
members_of verbose by_option at font made =
    members (length font.bytes) (length made.font.items) (sizes_if verbose font made.font.items) (axes_known font)
    (notes_for (axes_known font) at) (first_missing made.picked.missing.items) (other_face by_option font)

abbrev pub more_by : Form → Bool → Bool → Option (List (Tag × ℤ)) → Font → Made → Option Sheet → List ℕ
more_by Lines verbose by_option at font made sheet =
    if verbose then sizes_text (sizes_of font made.font.items) (length font.bytes) (length made.font.items) else []
more_by Json verbose by_option at font made sheet = members_of verbose by_option at font made ++ pdf_text sheet
more_by Silence verbose by_option at font made sheet = []

abbrev pub more_text : Plan → List ℕ → Made → Option Sheet → List ℕ
more_text plan bytes made sheet =
    more_by plan.task.form plan.verbose plan.by_option (option_copied plan.task.at) (face_of plan.task bytes) made sheet

-- ---- the names of the glyphs, which a JSON object has

-- by the tables `post` and `CFF ` of a face
abbrev pub names_of : Font → List ℕ → List (List ℕ)
names_of font glyphs =
    map (glyph_name (bytes_or_none (stored font (codes "post"))) (bytes_or_none (stored font (codes "CFF ")))) glyphs

abbrev pub names_by : Form → Font → List ℕ → List (List ℕ)
names_by Lines font glyphs = []
names_by Json font glyphs = names_of font glyphs
names_by Silence font glyphs = []

abbrev pub names_for : Plan → List ℕ → List ℕ → List (List ℕ)
names_for plan bytes glyphs = names_by plan.task.form (face_of plan.task bytes) glyphs

-- ---- what is made

-- outlines in `CFF2` alone
abbrev pub is_cff2 : Outlines → Bool
is_cff2 TrueType = false
is_cff2 Cff = false
is_cff2 Cff2 = true
is_cff2 Missing = false

-- a font with these is taken at its default, where an option requests the glyphs and none says coordinates
abbrev pub takes_default : Plan → List ℕ → Bool
takes_default plan bytes =
    plan.by_option && (not (is_some plan.task.at) && is_cff2 (outlines_of (face_of plan.task bytes)))

-- the task of a plan: as it is given, at the default, or at the coordinates of the named instance
pub data IsTaskOfPlan (plan : Plan) (bytes : List ℕ) : Task → Type 0 where
  as_given : option_copied plan.instance ≡ None → takes_default plan bytes ≡ false → IsTaskOfPlan plan bytes plan.task
  at_default : (at : Bor (List (Tag × ℤ))) → option_copied plan.instance ≡ None → takes_default plan bytes ≡ true
      → at.now ≡ []
      → IsTaskOfPlan plan bytes (record plan.task { at = Some at })
  at_instance : (name : List ℕ) (at : Bor (List (Tag × ℤ))) → option_copied plan.instance ≡ Some name
      → face_settings (face_of plan.task bytes) name ≡ Some at.now
      → IsTaskOfPlan plan bytes (record plan.task { at = Some at })

pub record IsOutcome (plan : Plan) (bytes : List ℕ) (outcome : Outcome) : Type 0 where
  pub task : Task
  pub is_placed : IsTaskOfPlan plan bytes task
  pub is_made : IsMade task bytes outcome.made
  -- with the PDF, if one is requested
  pub sheet_is : IsSheetIf plan.pdf task bytes outcome.made outcome.sheet
  pub more_is : outcome.more.items ≡ more_text plan bytes outcome.made outcome.sheet
  pub names_are : map (λ name. name.now) outcome.names.items ≡ names_for plan bytes outcome.made.picked.glyphs.items

-- the font has no such instance, or its `fvar` can't be read
pub record IsUnplaced (plan : Plan) (bytes : List ℕ) (failure : Failure) : Type 0 where
  pub name : List ℕ
  pub is_name : option_copied plan.instance ≡ Some name
  pub is_missing : face_settings (face_of plan.task bytes) name ≡ None
  pub failure_is : (failure ≡ Error UnknownKind) ⊎ ((failure ≡ Error MalformedFont) ⊎ (failure ≡ NoInstance))

-- or the task is refused
pub record IsUnmadePlan (plan : Plan) (bytes : List ℕ) (failure : Failure) : Type 0 where
  pub task : Task
  pub is_placed : IsTaskOfPlan plan bytes task
  pub is_unmade : IsUnmade task bytes failure

-- or the PDF of what the task makes
pub record IsUnshownPlan (plan : Plan) (bytes : List ℕ) (failure : Failure) : Type 0 where
  pub task : Task
  pub is_placed : IsTaskOfPlan plan bytes task
  pub made : Made
  pub is_made : IsMade task bytes made
  pub is_unshown : IsUnshownIf plan.pdf task bytes made failure

abbrev pub IsNoOutcome : Plan → List ℕ → Failure → Type 0
IsNoOutcome plan bytes failure =
    (failure ≡ Error OutOfMemory)
    ⊎ (IsUnplaced plan bytes failure ⊎ (IsUnmadePlan plan bytes failure ⊎ IsUnshownPlan plan bytes failure))
