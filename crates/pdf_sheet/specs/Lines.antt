-- A sheet of lines, each on a page of its own (ISO 32000-1, 7.7 and 9.4).
use Rattle.std.specs.Prelude.{ℕ, ◌+◌, Bool, List, [], ◌∷◌, ◌++◌, length, is_some, codes, decimal}
use Rattle.pdf_text.specs.declared.values.FontValues.{FontValues}
use Rattle.pdf_text.specs.Dictionaries.Entries.{reference}
use Rattle.pdf_sheet.specs.declared.frame.Frame.{Frame}
use Rattle.pdf_sheet.specs.declared.lines.SheetLine.{SheetLine}
use Rattle.pdf_sheet.specs.Content.{line_frame, line_position}
use Rattle.pdf_sheet.specs.Pages.{HasNoFile, catalog_value, font_number, font_values, kids, stream_value}

-- ---- a line

-- a text object with a line's operators in 36 points
abbrev pub line_content : Frame → List ℕ → List ℕ
line_content frame operators =
    codes "BT\n/F0 36 Tf\n" ++ (line_position frame.vertical frame.height ++ (operators ++ codes "ET"))

abbrev pub page_begin : Frame → List ℕ
page_begin frame =
    codes "<< /Type /Page /Parent 2 0 R /MediaBox [0 0 "
    ++ (decimal frame.width ++ (codes " " ++ (decimal frame.height ++ codes "]")))

abbrev pub page_end : ℕ → ℕ → List ℕ
page_end font n =
    codes " /Resources << /Font << /F0 "
    ++ (reference font ++ (codes " >> >> /Contents " ++ (reference n ++ codes " >>")))

-- a page of its own size that has the font with the first number, and the content with the second
abbrev pub line_page : Frame → ℕ → ℕ → List ℕ
line_page frame font n = page_begin frame ++ page_end font n

-- its page and its content, from a number on
abbrev pub line_objects : Bool → ℕ → ℕ → SheetLine → List (List ℕ)
line_objects vertical font n l =
    line_page (line_frame vertical l.advance) font (n + 1)
    ∷ stream_value (line_content (line_frame vertical l.advance) l.operators.now) ∷ []

-- ---- all lines

-- the root of `count` pages
abbrev pub lines_root : ℕ → List ℕ
lines_root count =
    (codes "<< /Type /Pages /Count " ++ (decimal count ++ (codes " /Kids [" ++ kids 3 count))) ++ codes "] >>"

-- pages with a font and their contents, from a number on
abbrev pub line_pages : Bool → ℕ → ℕ → List SheetLine → List (List ℕ)
line_pages vertical font n [] = []
line_pages vertical font n (l ∷ ls) = line_objects vertical font n l ++ line_pages vertical font (n + 2) ls

-- the objects before the font
abbrev pub lines_front : Bool → List SheetLine → List (List ℕ)
lines_front vertical ls = catalog_value ∷ lines_root (length ls) ∷ line_pages vertical (font_number (length ls)) 3 ls

-- the values of the objects, from object 1 on
abbrev pub lines_values : FontValues → List SheetLine → List (List ℕ)
lines_values v ls = lines_front (is_some v.columns) ls ++ font_values (font_number (length ls)) v

-- why there is no sheet
abbrev pub AreTooLarge : FontValues → List SheetLine → Type 0
AreTooLarge v ls = HasNoFile (font_number (length ls)) v (lines_values v ls)
