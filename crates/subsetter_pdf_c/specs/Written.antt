-- What is written of a font that C holds: its objects, also as data, and sheets.
use Rattle.std.specs.Prelude.{◌≡◌, ◌≤◌, ◌⊎◌, ◌+◌, ◌^◌, ℕ, List, [], length, map, Option, Some, None}
use Rattle.std.specs.List.{concat}
use Rattle.pdf_objects.specs.Glyphs.{IsSheetOf as IsSheetOfView, IsTooLargeFor as IsTooLargeForView}
use Rattle.pdf_objects.specs.declared.view.FontView.{FontView}
use Rattle.pdf_sheet.specs.File.{AreInTable, body_of, file_of}
use Rattle.pdf_sheet.specs.Lines.{AreTooLarge, lines_values}
use Rattle.pdf_sheet.specs.declared.frame.Layout.{Layout}
use Rattle.pdf_sheet.specs.declared.lines.SheetLine.{SheetLine}
use Rattle.pdf_text.specs.Dictionaries.Widths.{HasManyColumns}
use Rattle.pdf_text.specs.Objects.{font_objects, most_objects, offsets_from, AreFontObjectsAt}
use Rattle.pdf_text.specs.Parts.{Part, part_count, parts_of as parts_of_values, HasNoParts}
use Rattle.pdf_text.specs.declared.objects.Object.{Object}
use Rattle.pdf_text.specs.declared.objects.Object.TheVariants.{Font, CidFont, FontDescriptor, FontFile, ToUnicode}
use Rattle.pdf_text.specs.declared.objects.Object.TheVariants.{CidToGidMap, CidSet, Cmap}
use Rattle.pdf_text.specs.declared.parts.PartsError.{PartsError}
use Rattle.pdf_text.specs.declared.parts.PartsError.TheVariants.{Subset}
use Rattle.pdf_text.specs.declared.strings.StringRange.{StringRange}
use Rattle.subsetter_base.specs.declared.error.Error.TheVariants.{OutOfMemory}
use Rattle.subsetter_pdf_c.specs.Made.{IsViewOf}
use Rattle.subsetter_pdf_c.specs.declared.made.PdfMade.{PdfMade}
use Rattle.subsetter_pdf_c.specs.declared.parts.PdfPart.{PdfPart}

-- ---- objects

-- the objects of the font with these bytes of CIDToGIDMap, with numbers from the first on, and where each begins
pub record AreObjectsOf (made : PdfMade) (glyph_map : List ℕ) (first : ℕ) (text offsets : List ℕ) : Type 0 where
  pub view : FontView
  pub is : IsViewOf made glyph_map view
  pub text_is : text ≡ concat (font_objects first view.values)
  pub offsets_are : offsets ≡ offsets_from 0 (font_objects first view.values)
  pub at : AreFontObjectsAt first view.values text offsets

-- seven numbers from the first on have more than 32 bits, or eight with a map, or there are more columns than CIDs
pub record HaveNoNumbers (made : PdfMade) (glyph_map : List ℕ) (first : ℕ) : Type 0 where
  pub view : FontView
  pub is : IsViewOf made glyph_map view
  pub why : (2 ^ 32 ≤ first + most_objects view.values) ⊎ HasManyColumns view.values.columns

-- ---- objects as data

-- the number of a role
abbrev pub role_number : Object → ℕ
role_number Font = 0
role_number CidFont = 1
role_number FontDescriptor = 2
role_number FontFile = 3
role_number ToUnicode = 4
role_number CidSet = 5
role_number Cmap = 6
role_number CidToGidMap = 7

-- whether there is a stream, and its bytes
abbrev pub stream_number : Option (List ℕ) → ℕ
stream_number None = 0
stream_number (Some bytes) = 1

abbrev pub stream_bytes : Option (List ℕ) → List ℕ
stream_bytes None = []
stream_bytes (Some bytes) = bytes

-- a part in numbers and lists
pub record Laid : Type 0 where
  pub role : ℕ
  pub number : ℕ
  pub entries : List ℕ
  pub strings : List StringRange
  pub is_stream : ℕ
  pub stream : List ℕ

abbrev pub laid_out : Part → Laid
laid_out p =
    record {
      role = role_number p.role;
      number = p.number;
      entries = p.entries;
      strings = p.strings;
      is_stream = stream_number p.stream;
      stream = stream_bytes p.stream;
    }

abbrev pub laid_view : PdfPart → Laid
laid_view p =
    record {
      role = p.role;
      number = p.number;
      entries = p.entries.now;
      strings = p.strings.now;
      is_stream = p.is_stream;
      stream = p.stream.now;
    }

-- how many objects a font has
pub record IsPartCount (made : PdfMade) (glyph_map : List ℕ) (count : ℕ) : Type 0 where
  pub view : FontView
  pub is : IsViewOf made glyph_map view
  pub count_is : count ≡ part_count view.values

-- the objects of the font that have these numbers
pub record ArePartsOf (made : PdfMade) (glyph_map numbers : List ℕ) (ps : List PdfPart) : Type 0 where
  pub view : FontView
  pub is : IsViewOf made glyph_map view
  pub parts : map laid_view ps ≡ map laid_out (parts_of_values view.values numbers)

-- why there are no objects
pub record HasNoPartsOf (made : PdfMade) (glyph_map numbers : List ℕ) (e : PartsError) : Type 0 where
  pub view : FontView
  pub is : IsViewOf made glyph_map view
  pub why : (e ≡ Subset OutOfMemory) ⊎ HasNoParts view.values numbers e

-- ---- a sheet

pub record IsSheetOf (made : PdfMade) (texts : List (List ℕ)) (layout : Layout) (file : List ℕ) : Type 0 where
  pub view : FontView
  pub is : IsViewOf made [] view
  pub sheet : IsSheetOfView view texts layout file

-- the sheet has too many objects, bytes or columns
pub record IsTooLargeFor (made : PdfMade) (texts : List (List ℕ)) (layout : Layout) : Type 0 where
  pub view : FontView
  pub is : IsViewOf made [] view
  pub large : IsTooLargeForView view texts layout

-- ---- lines, with these bytes of CIDToGIDMap

pub record AreLinesOf (made : PdfMade) (glyph_map : List ℕ) (lines : List SheetLine) (file : List ℕ) : Type 0 where
  pub view : FontView
  pub is : IsViewOf made glyph_map view
  pub whole : file ≡ file_of (lines_values view.values lines)
  pub at : AreInTable file (length (body_of (lines_values view.values lines))) (lines_values view.values lines)

-- they have too many objects, bytes or columns
pub record AreTooLargeFor (made : PdfMade) (glyph_map : List ℕ) (lines : List SheetLine) : Type 0 where
  pub view : FontView
  pub is : IsViewOf made glyph_map view
  pub large : AreTooLarge view.values lines
