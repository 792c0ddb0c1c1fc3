-- The PDF that is made beside the font, and why there is none.
use Rattle.std.specs.Prelude.{◌≡◌, ◌⊎◌, ℕ, ℤ, nat_lt, not, ◌&&◌, Bool, true, false, List, [], ◌∷◌, length, Option, Some}
use Rattle.std.specs.Prelude.{None, unwrap_or, IsSome, IfSome, Result, Ok, Err}
use Rattle.std.specs.Option.{option_copied}
use Rattle.subsetter_base.specs.declared.tag.Tag.{Tag}
use Rattle.subsetter_base.specs.declared.error.Error.{Error as Refusal}
use Rattle.glyph_kinds.specs.Kinds.{unseen_glyphs}
use Rattle.subset_args.specs.declared.options.chosen.PdfChoice.{PdfChoice}
use Rattle.subset_lines.specs.Objects.Pdf.{pdf_member}
use Rattle.pdf_sheet.specs.declared.frame.Layout.{Layout}
use Rattle.pdf_sheet.specs.declared.frame.Layout.TheVariants.{Line, Grid}
use Rattle.subset_pdf.specs.Sheet.{HasSheetFault, IsSheetFor}
use Rattle.subset_pdf.specs.declared.options.PdfRequest.{PdfRequest}
use Rattle.subset_pdf.specs.declared.sheet.Sheet.{Sheet}
use Rattle.subset_pdf.specs.declared.sheet.SheetError.{SheetError}
use Rattle.subset_pdf.specs.declared.sheet.SheetError.TheVariants.{Font, NotPermitted as Forbidden, TextTooLong}
use Rattle.subset_task.specs.declared.refusals.failure.Failure.{Failure}
use Rattle.subset_task.specs.declared.refusals.failure.Failure.TheVariants.{Error, NotPermitted, BlankGlyphs}
use Rattle.subset_task.specs.declared.refusals.failure.Failure.TheVariants.{TextTooLong as LongText}
use Rattle.subset_font.specs.Making.Made.{face_of}
use Rattle.subset_font.specs.declared.making.subset.Made.{Made}
use Rattle.subset_task.specs.declared.task.RequestedGlyphs.{RequestedGlyphs}
use Rattle.subset_task.specs.declared.task.RequestedGlyphs.TheVariants.{These, Every, ByText, ByCharacters}
use Rattle.subset_task.specs.declared.task.Task.{Task}

-- the glyphs of a text alone are shown in a line, others in a grid
abbrev pub layout_by : RequestedGlyphs → Layout
layout_by (These given) = Grid
layout_by Every = Grid
layout_by (ByText text) = Line
layout_by (ByCharacters given) = Grid

abbrev pub layout_of : List RequestedGlyphs → Layout
layout_of [] = Grid
layout_of (one ∷ []) = layout_by one
layout_of (one ∷ other ∷ more) = Grid

abbrev pub settings_of : Option (List (Tag × ℤ)) → List (Tag × ℤ)
settings_of at = unwrap_or at []

-- the PDF that a task requests
pub record IsRequestOf (task : Task) (choice : PdfChoice) (request : PdfRequest) : Type 0 where
  pub index : request.index ≡ task.index
  pub at : request.at.now ≡ settings_of (option_copied task.at)
  pub limits : request.limits ≡ task.options.limits
  pub hinting : request.hinting ≡ task.options.extras.hinting
  pub choice_is : request.choice ≡ choice
  pub layout : request.layout ≡ layout_of task.requested.pieces.now

-- a sheet of the font and the glyphs of what a task made
pub record IsShown (choice : PdfChoice) (task : Task) (bytes : List ℕ) (made : Made) (sheet : Sheet) : Type 0 where
  pub request : PdfRequest
  pub is_requested : IsRequestOf task choice request
  pub is_sheet :
      IsSheetFor bytes request made.picked.text.items made.picked.lengths.items made.picked.glyphs.items sheet

-- whether the font has another picture of a glyph, whose outline is empty
abbrev pub is_any_unseen : Result (List ℕ) Refusal → Bool
is_any_unseen (Ok glyphs) = nat_lt 0 (length glyphs)
is_any_unseen (Err e) = false

-- a PDF would show a blank of it, and may show none
abbrev pub is_blank : PdfChoice → Task → List ℕ → Made → Bool
is_blank choice task bytes made =
    not choice.allow_blank && is_any_unseen (unseen_glyphs (face_of task bytes) made.picked.glyphs.items)

abbrev pub IsSheetIf : Option PdfChoice → Task → List ℕ → Made → Option Sheet → Type 0
IsSheetIf None task bytes made sheet = sheet ≡ None
IsSheetIf (Some choice) task bytes made sheet =
    IsSome sheet × IfSome sheet (IsShown choice task bytes made) × (is_blank choice task bytes made ≡ false)

-- ---- why there is none

abbrev pub failure_of : SheetError → Failure
failure_of (Font e) = Error e
failure_of (Forbidden permission) = NotPermitted permission
failure_of TextTooLong = LongText

pub record IsUnshown (choice : PdfChoice) (task : Task) (bytes : List ℕ) (made : Made) (failure : Failure)
    : Type 0 where
  pub request : PdfRequest
  pub is_requested : IsRequestOf task choice request
  pub why : SheetError
  pub failure_is : failure ≡ failure_of why
  pub fault : HasSheetFault bytes request made.picked.text.items made.picked.lengths.items made.picked.glyphs.items why

abbrev pub IsUnshownIf : Option PdfChoice → Task → List ℕ → Made → Failure → Type 0
IsUnshownIf None task bytes made failure = ⊥
IsUnshownIf (Some choice) task bytes made failure =
    IsUnshown choice task bytes made failure ⊎ ((failure ≡ BlankGlyphs) × (is_blank choice task bytes made ≡ true))

-- ---- what is written and printed of it

abbrev pub page_of : Option Sheet → List ℕ
page_of None = []
page_of (Some sheet) = sheet.file.items

-- the member of a JSON object
abbrev pub pdf_text_of : Sheet → List ℕ
pdf_text_of sheet = pdf_member (length sheet.file.items) sheet.font.descriptor.font_name.items sheet.font.codes.items

abbrev pub pdf_text : Option Sheet → List ℕ
pdf_text None = []
pdf_text (Some sheet) = pdf_text_of sheet
