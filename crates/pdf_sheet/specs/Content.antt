-- Content streams that show glyphs by their codes (ISO 32000-1, 9.4, 14.6 and 14.9.4).
use Rattle.std.specs.Prelude.{ℕ, ◌+◌, ◌-◌, ◌*◌, ◌/◌, ◌%◌, ◌==◌, Bool, true, false, if◌then◌else◌, List, [], ◌∷◌, ◌++◌}
use Rattle.std.specs.Prelude.{codes, decimal, min}
use Rattle.pdf_text.specs.Cmaps.Cmap.{hex_string}
use Rattle.pdf_sheet.specs.Units.{units_of}
use Rattle.pdf_sheet.specs.declared.glyphs.SheetGlyph.{SheetGlyph}
use Rattle.pdf_sheet.specs.declared.frame.Layout.{Layout}
use Rattle.pdf_sheet.specs.declared.frame.Layout.TheVariants.{Line, Grid}
use Rattle.pdf_sheet.specs.declared.frame.Frame.{Frame}

-- ---- a glyph

abbrev pub code_text : ℕ → List ℕ
code_text code = hex_string (code ∷ []) ++ codes " Tj\n"

-- the text of what follows, in UTF-16 with its byte order mark (7.9.2.2)
abbrev pub span_begin : List ℕ → List ℕ
span_begin units = codes "/Span << /ActualText " ++ (hex_string (65279 ∷ units) ++ codes " >> BDC\n")

-- a glyph, by its code; with an ActualText where the code doesn't say its text
abbrev pub shown_text : SheetGlyph → List ℕ
shown_text g =
    if g.is_said then code_text g.code else span_begin (units_of g.text.now) ++ (code_text g.code ++ codes "EMC\n")

-- ---- where it is, in points

-- the pen is set to a point
abbrev pub position_text : ℕ → ℕ → List ℕ
position_text x y = codes "1 0 0 1 " ++ (decimal x ++ (codes " " ++ (decimal y ++ codes " Tm\n")))

-- cells of 44 by 48 points, of which 12 are in a row, in 16 rows from above
abbrev pub cell_x : ℕ → ℕ
cell_x k = 34 + 44 * (k % 12)

abbrev pub cell_y : ℕ → ℕ
cell_y k = 50 + 48 * (15 - k / 12 % 16)

-- where a line begins, on a page of this height
abbrev pub line_position : Bool → ℕ → List ℕ
line_position false height = position_text 36 54
line_position true height = position_text 72 (height - 36)

-- before glyph k: each glyph of a grid has its own place, and a line begins with one
abbrev pub glyph_position : Layout → Bool → ℕ → ℕ → List ℕ
glyph_position Grid false height k = position_text (cell_x k) (cell_y k)
glyph_position Grid true height k = position_text (cell_x k + 18) (cell_y k + 32)
glyph_position Line vertical height k = if k == 0 then line_position vertical height else []

-- ---- a page

-- the thousandths of the em that glyphs go on
abbrev pub advance_of : List SheetGlyph → ℕ
advance_of [] = 0
advance_of (g ∷ gs) = g.advance + advance_of gs

-- the points of a line, of 36 an em, and a margin of 36 on each side: at most 14,400, which is the most that a page
-- takes (Annex C)
abbrev pub extent : ℕ → ℕ
extent advance = 72 + (36 * min advance 398000 + 999) / 1000

-- the page of a line that goes on by thousandths of the em
abbrev pub line_frame : Bool → ℕ → Frame
line_frame false advance = record { layout = Line; vertical = false; width = extent advance; height = 144 }
line_frame true advance = record { layout = Line; vertical = true; width = 144; height = extent advance }

-- the page: A4, or as long as a line
abbrev pub frame_of : Layout → Bool → List SheetGlyph → Frame
frame_of Grid vertical gs = record { layout = Grid; vertical = vertical; width = 595; height = 842 }
frame_of Line vertical gs = line_frame vertical (advance_of gs)

-- glyphs from glyph k on
abbrev pub glyphs_text : Frame → ℕ → List SheetGlyph → List ℕ
glyphs_text frame k [] = []
glyphs_text frame k (g ∷ gs) =
    (glyph_position frame.layout frame.vertical frame.height k ++ shown_text g) ++ glyphs_text frame (k + 1) gs

-- a text object with glyphs in 36 points
abbrev pub content : Frame → List SheetGlyph → List ℕ
content frame gs = codes "BT\n/F0 36 Tf\n" ++ (glyphs_text frame 0 gs ++ codes "ET")
