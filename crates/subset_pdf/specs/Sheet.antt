-- A PDF that shows glyphs of a font, and why there is none.
use Rattle.std.specs.Prelude.{◌≡◌, ℕ, Bool, true, false, is_some, List, [], ◌∷◌, map, length}
use Rattle.std.specs.Option.{option_map}
use Rattle.subsetter_base.specs.declared.error.Error.{Error}
use Rattle.subsetter_base.specs.declared.error.Error.TheVariants.{OverflowError, UnknownKind}
use Rattle.pdf_codes.specs.Shown.{uses_of}
use Rattle.pdf_codes.specs.declared.shown.Shown.{Shown}
use Rattle.pdf_font.specs.PdfFont.{HasFontFault, IsPdfFont, font_of}
use Rattle.pdf_font.specs.declared.error.FontError.{FontError}
use Rattle.pdf_font.specs.declared.error.FontError.TheVariants.{Subset, NotPermitted as Forbidden}
use Rattle.pdf_font.specs.declared.error.FontError.TheVariants.{TextTooLong as TooLong, BitmapsAlone}
use Rattle.pdf_font.specs.declared.font.PdfFont.{PdfFont}
use Rattle.pdf_objects.specs.Glyphs.{IsSheetOfFont, IsTooLargeForFont}
use Rattle.pdf_objects.specs.View.{IsViewWith}
use Rattle.pdf_objects.specs.declared.view.FontView.{FontView}
use Rattle.pdf_sheet.specs.File.{AreInTable, body_of, file_of}
use Rattle.pdf_sheet.specs.Lines.{AreTooLarge, lines_values}
use Rattle.pdf_sheet.specs.declared.frame.Layout.{Layout}
use Rattle.pdf_sheet.specs.declared.frame.Layout.TheVariants.{Line as InLine, Grid}
use Rattle.pdf_sheet.specs.declared.lines.SheetLine.{SheetLine}
use Rattle.pdf_text_font.specs.Pairs.{by_code}
use Rattle.pdf_text_font.specs.TextFont.{HasTextFault, IsTextFont}
use Rattle.pdf_text_font.specs.declared.font.TextFont.{TextFont}
use Rattle.subset_pdf.specs.Cells.{AreCells, HasNoCells, are_single}
use Rattle.subset_pdf.specs.Line.{HasLineFault, IsLineFor}
use Rattle.subset_pdf.specs.Options.{options_of}
use Rattle.subset_pdf.specs.Shown.{entries_of, entry_of}
use Rattle.subset_pdf.specs.declared.line.Line.{Line}
use Rattle.subset_pdf.specs.declared.options.PdfRequest.{PdfRequest}
use Rattle.subset_pdf.specs.declared.sheet.Sheet.{Sheet}
use Rattle.subset_pdf.specs.declared.sheet.SheetError.{SheetError}
use Rattle.subset_pdf.specs.declared.sheet.SheetError.TheVariants.{Font, NotPermitted, TextTooLong}

-- the error of a font by its name here
abbrev pub named : FontError → SheetError
named (Subset e) = Font e
named (Forbidden p) = NotPermitted p
named TooLong = TextTooLong
named BitmapsAlone = Font UnknownKind

-- the error of a fault by this name: a face without outlines is of an unknown kind
abbrev pub fault_of : SheetError → FontError
fault_of (Font e) = Subset e
fault_of (NotPermitted p) = Forbidden p
fault_of TextTooLong = TooLong

-- ---- glyphs in use by their codes

-- what `pdf_font` returns
abbrev pub IsFontFor : List ℕ → PdfRequest → List Shown → PdfFont → Type 0
IsFontFor bytes request shown font =
    IsPdfFont (font_of bytes request.index (options_of request))
    request.at.now (options_of request) (uses_of shown) font

-- its sheet
pub record IsCodedSheet (bytes : List ℕ) (request : PdfRequest) (shown : List Shown) (sheet : Sheet) : Type 0 where
  pub font : IsFontFor bytes request shown sheet.font
  pub file : IsSheetOfFont sheet.font shown request.layout sheet.file.items

-- a fault for which `pdf_font` returns no font
abbrev pub HasFaultFor : List ℕ → PdfRequest → List Shown → SheetError → Type 0
HasFaultFor bytes request shown why =
    (order : List ℕ)
    × HasFontFault (font_of bytes request.index (options_of request))
    request.at.now (options_of request) (uses_of shown) order (fault_of why)

-- the sheet of a font is too large
abbrev pub IsTooLargeAs : PdfFont → List Shown → Layout → SheetError → Type 0
IsTooLargeAs font shown layout why = (why ≡ Font OverflowError) × IsTooLargeForFont font shown layout

pub data HasCodedFault (bytes : List ℕ) (request : PdfRequest) (shown : List Shown) (why : SheetError) : Type 0 where
  in_font : HasFaultFor bytes request shown why → HasCodedFault bytes request shown why
  too_large : (font : PdfFont) → IsFontFor bytes request shown font → IsTooLargeAs font shown request.layout why
      → HasCodedFault bytes request shown why

-- ---- glyphs as the line of a text

-- what `text_font` returns for a line, without own glyphs
abbrev pub IsTextFor : List ℕ → PdfRequest → Line → TextFont → Type 0
IsTextFor bytes request line text =
    IsTextFont (font_of bytes request.index (options_of request)) request.at.now
    (options_of request) line.glyph_count [] (by_code line.pairs) text

abbrev pub HasTextFaultFor : List ℕ → PdfRequest → Line → SheetError → Type 0
HasTextFaultFor bytes request line why =
    HasTextFault (font_of bytes request.index (options_of request)) request.at.now
    (options_of request) line.glyph_count [] (by_code line.pairs) (fault_of why)

-- its font and the line, as `write_lines` takes them
pub record IsViewOfLine (text : TextFont) (line : Line) (view : FontView) (shown : SheetLine) : Type 0 where
  pub font : IsViewWith text.font (option_map (λ m. m.items) text.cid_to_gid_map) view
  pub operators : shown.operators.now ≡ line.operators.items
  pub advance : shown.advance ≡ line.advance

pub record IsPage (text : TextFont) (line : Line) (file : List ℕ) : Type 0 where
  pub view : FontView
  pub shown : SheetLine
  pub is : IsViewOfLine text line view shown
  pub whole : file ≡ file_of (lines_values view.values (shown ∷ []))
  pub at :
      AreInTable file (length (body_of (lines_values view.values (shown ∷ [])))) (lines_values view.values (shown ∷ []))

pub record HasNoPage (text : TextFont) (line : Line) : Type 0 where
  pub view : FontView
  pub shown : SheetLine
  pub is : IsViewOfLine text line view shown
  pub large : AreTooLarge view.values (shown ∷ [])

-- a line on its page, or its codes in cells of a grid
abbrev pub IsShownAs : Layout → TextFont → Line → List Shown → List ℕ → Type 0
IsShownAs InLine text line shown file = IsPage text line file
IsShownAs Grid text line shown file = AreCells text line shown file

abbrev pub IsUnshownAs : Layout → TextFont → Line → List Shown → Type 0
IsUnshownAs InLine text line shown = HasNoPage text line
IsUnshownAs Grid text line shown = HasNoCells text line shown

-- the sheet of their line; the codes are those that it shows
pub record IsTextSheet (bytes : List ℕ) (request : PdfRequest) (shown : List Shown) (sheet : Sheet) : Type 0 where
  pub line : Line
  pub text : TextFont
  pub is_line : IsLineFor bytes request shown line
  pub is_text : IsTextFor bytes request line text
  pub font : sheet.font ≡ record text.font { codes = line.codes }
  pub page : IsShownAs request.layout text line shown sheet.file.items

pub data HasTextSheetFault (bytes : List ℕ) (request : PdfRequest) (shown : List Shown) (why : SheetError)
    : Type 0 where
  no_line : (e : Error) → why ≡ Font e → HasLineFault bytes request shown e → HasTextSheetFault bytes request shown why
  no_text : (line : Line) → IsLineFor bytes request shown line → HasTextFaultFor bytes request line why
      → HasTextSheetFault bytes request shown why
  no_page : (line : Line) (text : TextFont) → IsLineFor bytes request shown line → IsTextFor bytes request line text
      → why ≡ Font OverflowError → IsUnshownAs request.layout text line shown
      → HasTextSheetFault bytes request shown why

-- ---- both

-- glyphs in a grid are shown as a text, unless one has several characters, or there is no such text
pub data IsGrid (bytes : List ℕ) (request : PdfRequest) (shown : List Shown) (sheet : Sheet) : Type 0 where
  as_text : are_single shown ≡ true → IsTextSheet bytes request shown sheet → IsGrid bytes request shown sheet
  several : are_single shown ≡ false → IsCodedSheet bytes request shown sheet → IsGrid bytes request shown sheet
  instead : (why : SheetError) → HasTextSheetFault bytes request shown why → IsCodedSheet bytes request shown sheet
      → IsGrid bytes request shown sheet

-- by codes where a way of getting them is given
abbrev pub IsSheetAs : Bool → Layout → List ℕ → PdfRequest → List Shown → Sheet → Type 0
IsSheetAs true layout bytes request shown sheet = IsCodedSheet bytes request shown sheet
IsSheetAs false InLine bytes request shown sheet = IsTextSheet bytes request shown sheet
IsSheetAs false Grid bytes request shown sheet = IsGrid bytes request shown sheet

abbrev pub is_coded : PdfRequest → Bool
is_coded request = is_some request.choice.coding

abbrev pub IsSheetBy : List ℕ → PdfRequest → List Shown → Sheet → Type 0
IsSheetBy bytes request shown sheet = IsSheetAs (is_coded request) request.layout bytes request shown sheet

abbrev pub HasSheetFaultAs : Bool → Layout → List ℕ → PdfRequest → List Shown → SheetError → Type 0
HasSheetFaultAs true layout bytes request shown why = HasCodedFault bytes request shown why
HasSheetFaultAs false InLine bytes request shown why = HasTextSheetFault bytes request shown why
HasSheetFaultAs false Grid bytes request shown why = HasCodedFault bytes request shown why

abbrev pub HasSheetFaultBy : List ℕ → PdfRequest → List Shown → SheetError → Type 0
HasSheetFaultBy bytes request shown why =
    HasSheetFaultAs (is_coded request) request.layout bytes request shown why

-- ---- for glyphs and their texts

-- a sheet of the glyphs with their texts
pub record IsSheetFor (bytes : List ℕ) (request : PdfRequest) (text lengths glyphs : List ℕ) (sheet : Sheet)
    : Type 0 where
  pub shown : List Shown
  pub are_shown : map entry_of shown ≡ entries_of text lengths glyphs
  pub is_sheet : IsSheetBy bytes request shown sheet

-- a fault against it
pub record HasSheetFault (bytes : List ℕ) (request : PdfRequest) (text lengths glyphs : List ℕ) (why : SheetError)
    : Type 0 where
  pub shown : List Shown
  pub are_shown : map entry_of shown ≡ entries_of text lengths glyphs
  pub fault : HasSheetFaultBy bytes request shown why
