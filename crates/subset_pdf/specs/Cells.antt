-- Glyphs with their texts in cells of a grid, each by the code that it has in a text.
use Rattle.std.specs.Prelude.{◌≡◌, ℕ, not, ◌==◌, ◌&&◌, nat_le, Bool, false, List, [], ◌∷◌, length, map}
use Rattle.std.specs.List.{list_all}
use Rattle.std.specs.Option.{option_map}
use Rattle.pdf_codes.specs.Shown.{texts_of}
use Rattle.pdf_codes.specs.Units.{is_left_out}
use Rattle.pdf_codes.specs.declared.shown.Shown.{Shown}
use Rattle.pdf_objects.specs.Glyphs.{IsSheetOf, IsTooLargeFor}
use Rattle.pdf_objects.specs.View.{IsViewWith}
use Rattle.pdf_objects.specs.declared.view.FontView.{FontView}
use Rattle.pdf_sheet.specs.declared.frame.Layout.TheVariants.{Grid}
use Rattle.pdf_text_font.specs.declared.font.TextFont.{TextFont}
use Rattle.subset_pdf.specs.declared.line.Line.{Line}

-- each glyph has one character at most, so that it has one code
abbrev pub are_single : List Shown → Bool
are_single shown = list_all (λ (s : Shown). nat_le (length s.text.now) 1) shown

-- a code says one character, but for code 0, and for the characters that no code may say
abbrev pub is_said_by : ℕ → List ℕ → Bool
is_said_by glyph [] = false
is_said_by glyph (c ∷ []) = not (glyph == 0) && not (is_left_out c)
is_said_by glyph (c ∷ d ∷ more) = false

abbrev pub is_said : Shown → Bool
is_said s = is_said_by s.glyph s.text.now

-- a text's font, whose entries are these glyphs with the codes of their line
pub record IsViewOfCells (text : TextFont) (line : Line) (shown : List Shown) (view : FontView) : Type 0 where
  pub font : FontView
  pub is : IsViewWith text.font (option_map (λ m. m.items) text.cid_to_gid_map) font
  pub values : view.values ≡ font.values
  pub codes : view.codes.now ≡ line.codes.items
  -- a code is its CID
  pub cids : view.cids.now ≡ line.codes.items
  pub is_said : view.is_said.now ≡ map is_said shown

-- its sheet
pub record AreCells (text : TextFont) (line : Line) (shown : List Shown) (file : List ℕ) : Type 0 where
  pub view : FontView
  pub is : IsViewOfCells text line shown view
  pub sheet : IsSheetOf view (texts_of shown) Grid file

pub record HasNoCells (text : TextFont) (line : Line) (shown : List Shown) : Type 0 where
  pub view : FontView
  pub is : IsViewOfCells text line shown view
  pub large : IsTooLargeFor view (texts_of shown) Grid
