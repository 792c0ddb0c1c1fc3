-- The objects of a sheet: catalog, pages and their contents (ISO 32000-1, 7.7), and those of its font.
use Rattle.std.specs.Prelude.{◌≤◌, ◌⊎◌, ◌^◌, ℕ, zero, suc, ◌+◌, ◌-◌, ◌*◌, ◌/◌, List, [], ◌∷◌, ◌++◌, length, take, drop}
use Rattle.std.specs.Prelude.{is_some, codes, decimal}
use Rattle.pdf_text.specs.declared.values.FontValues.{FontValues}
use Rattle.pdf_text.specs.Dictionaries.Entries.{reference}
use Rattle.pdf_text.specs.Dictionaries.Widths.{HasManyColumns}
use Rattle.pdf_text.specs.Objects.{most_objects, stream_end, references_from, objects_of, values_of}
use Rattle.pdf_sheet.specs.declared.glyphs.SheetGlyph.{SheetGlyph}
use Rattle.pdf_sheet.specs.declared.frame.Layout.{Layout}
use Rattle.pdf_sheet.specs.declared.frame.Layout.TheVariants.{Line, Grid}
use Rattle.pdf_sheet.specs.declared.frame.Frame.{Frame}
use Rattle.pdf_sheet.specs.Content.{content, frame_of}
use Rattle.pdf_sheet.specs.File.{body_of}

-- ---- which glyphs are on which page

-- n pages of at most 192 glyphs
abbrev pub pages_by : ℕ → List SheetGlyph → List (List SheetGlyph)
pages_by zero gs = []
pages_by (suc count) gs = take 192 gs ∷ pages_by count (drop 192 gs)

-- of a grid as many pages as its glyphs need, and one at least; of a line one
abbrev pub page_count : Layout → ℕ → ℕ
page_count Line size = 1
page_count Grid size = 1 + (size - 1) / 192

abbrev pub pages_of : Layout → List SheetGlyph → List (List SheetGlyph)
pages_of Line gs = gs ∷ []
pages_of Grid gs = pages_by (page_count Grid (length gs)) gs

-- ---- the values of objects

abbrev pub catalog_value : List ℕ
catalog_value = codes "<< /Type /Catalog /Pages 2 0 R >>"

-- references to every second object from one on, each with a blank
abbrev pub kids : ℕ → ℕ → List ℕ
kids n zero = []
kids n (suc count) = (reference n ++ codes " ") ++ kids (n + 2) count

-- the root of the pages, which has their size
abbrev pub pages_value : Frame → ℕ → List ℕ
pages_value frame count = codes "<< /Type /Pages /Count " ++ (decimal count ++ (codes " /Kids [" ++ (kids 3 count
    ++ (codes "] /MediaBox [0 0 " ++ (decimal frame.width ++ (codes " " ++ (decimal frame.height ++ codes "] >>")))))))

-- a page that has the font with the first number, and the content with the second
abbrev pub page_value : ℕ → ℕ → List ℕ
page_value font n =
    codes "<< /Type /Page /Parent 2 0 R /Resources << /Font << /F0 "
    ++ (reference font ++ (codes " >> >> /Contents " ++ (reference n ++ codes " >>")))

abbrev pub stream_value : List ℕ → List ℕ
stream_value bytes = codes "<< " ++ stream_end bytes

-- pages with a font and their contents, from a number on
abbrev pub page_values : Frame → ℕ → ℕ → List (List SheetGlyph) → List (List ℕ)
page_values frame font n [] = []
page_values frame font n (p ∷ ps) =
    page_value font (n + 1) ∷ stream_value (content frame p) ∷ page_values frame font (n + 2) ps

-- ---- all objects

-- the number of the font, after catalog, root, pages and contents
abbrev pub font_number : ℕ → ℕ
font_number count = 3 + 2 * count

-- the objects before the font
abbrev pub front_values : Layout → Frame → List SheetGlyph → List (List ℕ)
front_values layout frame gs =
    catalog_value ∷ pages_value frame (page_count layout (length gs))
    ∷ page_values frame (font_number (page_count layout (length gs))) 3 (pages_of layout gs)

-- the objects of the font, the first with this number
abbrev pub font_values : ℕ → FontValues → List (List ℕ)
font_values first v = values_of v (references_from first v) (objects_of v)

-- the values of a sheet's objects, from object 1 on
abbrev pub sheet_values : Layout → FontValues → List SheetGlyph → List (List ℕ)
sheet_values layout v gs =
    front_values layout (frame_of layout (is_some v.columns) gs) gs
    ++ font_values (font_number (page_count layout (length gs))) v

-- why there is no file of such values, of a font with this number: numbers of objects have 32 bits, offsets ten digits,
-- and CIDs 16 bits
abbrev pub HasNoFile : ℕ → FontValues → List (List ℕ) → Type 0
HasNoFile first v values =
    (2 ^ 32 ≤ first + most_objects v) ⊎ ((10000000000 ≤ length (body_of values)) ⊎ HasManyColumns v.columns)

-- why there is no sheet
abbrev pub IsTooLarge : Layout → FontValues → List SheetGlyph → Type 0
IsTooLarge layout v gs = HasNoFile (font_number (page_count layout (length gs))) v (sheet_values layout v gs)
