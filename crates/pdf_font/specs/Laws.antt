-- Laws of what a PDF has of a font.
use Rattle.std.specs.Prelude.{◌≡◌, ◌≢◌, ◌≤◌, ◌⊎◌, List, ◌++◌, length, take, codes, ℕ, Ok, Option, Some, None, ℤ}
use Rattle.std.specs.Option.{option_map}
use Rattle.subsetter_base.specs.declared.tag.Tag.{Tag}
use Rattle.subsetter_sfnt.specs.Read.{Font, as_font, stored, table}
use Rattle.cid_embed.specs.Afresh.{widths_of}
use Rattle.pdf_codes.specs.Codes.{AreCodes, Used}
use Rattle.pdf_codes.specs.Cmaps.Leading.{name_of, text_of}
use Rattle.pdf_glyphs.specs.declared.columns.Columns.{Columns}
use Rattle.pdf_text.specs.Dictionaries.Fonts.{name_end}
use Rattle.pdf_text.specs.declared.metrics.columns.Column.{Column}
use Rattle.pdf_text.specs.declared.metrics.columns.DefaultColumn.{DefaultColumn}
use Rattle.pdf_text.specs.declared.values.ProgramKind.{ProgramKind}
use Rattle.pdf_text.specs.declared.values.ProgramKind.TheVariants.{TrueType as TrueTypeFile, BareCff}
use Rattle.pdf_text.specs.declared.values.ProgramKind.TheVariants.{OpenType as OpenTypeFile}
use Rattle.pdf_values.specs.declared.looks.bounds.GlyphBox.{GlyphBox}
use Rattle.pdf_widths.specs.Laws.{HaveWidths}
use Rattle.pdf_source.specs.Boxed.{IsBoxed}
use Rattle.pdf_source.specs.Moved.{program_box}
use Rattle.pdf_source.specs.Widened.{widened}
use Rattle.pdf_font.specs.PdfFont.{HasFontFault, IsPdfFont, cmap_name}
use Rattle.pdf_source.specs.declared.choice.FontOptions.{FontOptions}
use Rattle.pdf_font.specs.declared.error.FontError.{FontError}
use Rattle.pdf_font.specs.declared.font.PdfFont.{PdfFont}

-- what is returned has no fault; sizes are judged for the order of its glyphs
abbrev pub HaveNoFault : Type 0
HaveNoFault =
    (font : Font) (settings : List (Tag × ℤ)) (options : FontOptions) (us : List Used)
    (f : PdfFont) (p : IsPdfFont font settings options us f) (why : FontError)
    → ¬ (HasFontFault font settings options us p.made.embedded.answer.embedded.subset.keeps.order why)

-- where more glyphs come into use, the codes of the earlier entries stay
abbrev pub CodesStay : Type 0
CodesStay =
    (font : Font) (settings : List (Tag × ℤ)) (options : FontOptions) (us more : List Used) (f longer : PdfFont)
    → IsPdfFont font settings options us f → IsPdfFont font settings options (us ++ more) longer
    → take (length f.codes.items) longer.codes.items ≡ f.codes.items

-- the codes are those that the glyphs in use and the choice determine: they need no font
abbrev pub CodesNeedNoFont : Type 0
CodesNeedNoFont =
    (font : Font) (settings : List (Tag × ℤ)) (options : FontOptions) (us : List Used) (f : PdfFont) (codes : List ℕ)
    → IsPdfFont font settings options us f → AreCodes options.codes us codes
    → f.codes.items ≡ codes

-- a program with `hmtx` has these widths, read afresh
abbrev pub WidthsAgree : Type 0
WidthsAgree =
    (font : Font) (settings : List (Tag × ℤ)) (options : FontOptions) (us : List Used) (f : PdfFont)
    → IsPdfFont font settings options us f → f.kind ≢ BareCff
    → widths_of (stored (as_font f.program.items)) f.glyph_count ≡ Ok f.widths.items

-- the `CFF ` of a program, bare or in a file
abbrev pub cff_in : ProgramKind → List ℕ → Option (List ℕ)
cff_in TrueTypeFile program = None
cff_in BareCff program = Some program
cff_in OpenTypeFile program = table (as_font program) (codes "CFF ")

-- it is that of the subset, or the same but for widths, which are these advances
pub record HasCffWidths (advances old : List ℕ) (there : Option (List ℕ)) : Type 0 where
  pub cff : List ℕ
  pub cff_is : there ≡ Some cff
  pub widths : (cff ≡ old) ⊎ HaveWidths advances old cff

abbrev pub CffWidthsAgree : Type 0
CffWidthsAgree =
    (font : Font) (settings : List (Tag × ℤ)) (options : FontOptions) (us : List Used)
    (f : PdfFont) (p : IsPdfFont font settings options us f) (old : List ℕ)
    → f.kind ≢ TrueTypeFile
    → table (as_font p.made.new.font.items) (codes "CFF ") ≡ Some old
    → HasCffWidths f.exact_widths.items old (cff_in f.kind f.program.items)

-- the name of the composite font, which a hyphen and the name of its CMap end where outlines are of CFF (9.7.6.1), has
-- at most 127 bytes (Annex C)
abbrev pub NamesAreShort : Type 0
NamesAreShort =
    (font : Font) (settings : List (Tag × ℤ)) (options : FontOptions) (us : List Used) (f : PdfFont)
    → IsPdfFont font settings options us f
    → length (f.descriptor.font_name.items ++ name_end f.kind (cmap_name f.encoding options.direction)) ≤ 127

-- ---- the kept box

-- where FontBBox is to hold the kept glyphs, the `head` of a program that is a file has their box: all else is the
-- subset, whose `CFF ` has the advances as its widths
abbrev pub KeptBoxes : Type 0
KeptBoxes =
    (font : Font) (settings : List (Tag × ℤ)) (options : FontOptions) (us : List Used)
    (f : PdfFont) (p : IsPdfFont font settings options us f) (b : GlyphBox)
    → f.kind ≢ BareCff
    → program_box (stored font) (stored (as_font p.made.new.font.items)) f.glyph_count options.bounds ≡ Some b
    → IsBoxed b (widened f.exact_widths.items p.made.new.font.items) f.program.items

-- ---- there is one answer

pub record ColumnsSeen : Type 0 where
  pub each : List Column
  pub default : DefaultColumn

abbrev pub columns_seen : Columns → ColumnsSeen
columns_seen c = record { each = c.each.items; default = c.default }

-- all that two say is the same; a CIDSet has the bits of the same CIDs
pub record AreSame (f g : PdfFont) : Type 0 where
  pub kind : f.kind ≡ g.kind
  pub program : f.program.items ≡ g.program.items
  pub count : f.glyph_count ≡ g.glyph_count
  pub cids : f.cids.items ≡ g.cids.items
  pub codes : f.codes.items ≡ g.codes.items
  pub said : f.is_said.items ≡ g.is_said.items
  pub widths : f.widths.items ≡ g.widths.items
  pub exact : f.exact_widths.items ≡ g.exact_widths.items
  pub units : f.units_per_em ≡ g.units_per_em
  pub default_width : f.default_width ≡ g.default_width
  pub columns : option_map columns_seen f.columns ≡ option_map columns_seen g.columns
  pub name : f.descriptor.font_name.items ≡ g.descriptor.font_name.items
  pub values : f.descriptor.values ≡ g.descriptor.values
  pub unknown_axes : f.unknown_axes.items ≡ g.unknown_axes.items
  pub permission : f.permission ≡ g.permission
  pub to_unicode : f.to_unicode.items ≡ g.to_unicode.items
  pub encoding : text_of f.encoding ≡ text_of g.encoding
  pub encoding_name : name_of f.encoding ≡ name_of g.encoding

abbrev pub OneAnswer : Type 0
OneAnswer =
    (font : Font) (settings : List (Tag × ℤ)) (options : FontOptions) (us : List Used) (f g : PdfFont)
    → IsPdfFont font settings options us f → IsPdfFont font settings options us g
    → AreSame f g
