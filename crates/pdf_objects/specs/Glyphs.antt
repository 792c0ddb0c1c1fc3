-- The glyphs of a sheet, and the sheet of a font.
use Rattle.std.specs.Prelude.{◌≡◌, ℕ, List, map, length, take, get_or, min, Option, Some, None, unsigned_abs}
use Rattle.pdf_codes.specs.declared.shown.Shown.{Shown}
use Rattle.pdf_codes.specs.Shown.{texts_of}
use Rattle.pdf_font.specs.declared.font.PdfFont.{PdfFont}
use Rattle.pdf_objects.specs.View.{IsViewOf}
use Rattle.pdf_objects.specs.declared.view.FontView.{FontView}
use Rattle.pdf_sheet.specs.File.{AreInTable, body_of, file_of}
use Rattle.pdf_sheet.specs.Pages.{sheet_values, IsTooLarge}
use Rattle.pdf_sheet.specs.declared.frame.Layout.{Layout}
use Rattle.pdf_sheet.specs.declared.glyphs.SheetGlyph.{SheetGlyph}
use Rattle.pdf_text.specs.Metrics.Columns.{no_column}
use Rattle.pdf_text.specs.declared.values.FontColumns.{FontColumns}
use Rattle.pdf_text.specs.declared.values.FontValues.{FontValues}

-- how far a line goes on with a CID: its width, or in vertical writing its advance
abbrev pub advance_by : Option FontColumns → List ℕ → ℕ → ℕ
advance_by None widths cid = get_or widths cid 0
advance_by (Some c) widths cid = unsigned_abs (get_or c.each.now cid no_column).advance

abbrev pub advance_of : FontValues → ℕ → ℕ
advance_of v cid = advance_by v.columns v.widths.now cid

-- as many as have a code, a CID, a text, and whether it is said
abbrev pub size_of : FontView → List (List ℕ) → ℕ
size_of w texts = min (min (length w.codes.now) (length w.cids.now)) (min (length w.is_said.now) (length texts))

-- the entries that a font was made for, with these texts, as glyphs of a sheet
pub record AreGlyphsOf (w : FontView) (ts : List (List ℕ)) (gs : List SheetGlyph) : Type 0 where
  pub codes : map (λ (g : SheetGlyph). g.code) gs ≡ take (size_of w ts) w.codes.now
  pub is_said : map (λ (g : SheetGlyph). g.is_said) gs ≡ take (size_of w ts) w.is_said.now
  pub texts : map (λ (g : SheetGlyph). g.text.now) gs ≡ take (size_of w ts) ts
  pub advances : map (λ (g : SheetGlyph). g.advance) gs ≡ map (advance_of w.values) (take (size_of w ts) w.cids.now)

pub record IsSheetOf (w : FontView) (ts : List (List ℕ)) (layout : Layout) (file : List ℕ) : Type 0 where
  pub glyphs : List SheetGlyph
  pub are : AreGlyphsOf w ts glyphs
  pub whole : file ≡ file_of (sheet_values layout w.values glyphs)
  pub at :
      AreInTable file (length (body_of (sheet_values layout w.values glyphs))) (sheet_values layout w.values glyphs)

-- the sheet has too many objects, bytes or columns
pub record IsTooLargeFor (w : FontView) (ts : List (List ℕ)) (layout : Layout) : Type 0 where
  pub glyphs : List SheetGlyph
  pub are : AreGlyphsOf w ts glyphs
  pub large : IsTooLarge layout w.values glyphs

-- ---- of a font that was made

pub record IsSheetOfFont (f : PdfFont) (shown : List Shown) (layout : Layout) (file : List ℕ) : Type 0 where
  pub view : FontView
  pub is : IsViewOf f view
  pub sheet : IsSheetOf view (texts_of shown) layout file

pub record IsTooLargeForFont (f : PdfFont) (shown : List Shown) (layout : Layout) : Type 0 where
  pub view : FontView
  pub is : IsViewOf f view
  pub large : IsTooLargeFor view (texts_of shown) layout
