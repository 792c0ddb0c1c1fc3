-- How a font for a PDF is handed to C: by its lists, its numbers and a status.
use Rattle.std.specs.Prelude.{◌≡◌, ◌⊎◌, ℕ, Bool, true, false, if◌then◌else◌, List, [], ◌∷◌, codes, Option, Some, None}
use Rattle.std.specs.Prelude.{ℤ, pos, Vec}
use Rattle.std.specs.Global.{Global}
use Rattle.subsetter_base.specs.declared.error.Error.{Error}
use Rattle.subsetter_base.specs.declared.error.Error.TheVariants.{OutOfMemory}
use Rattle.subsetter_base.specs.declared.tag.Tag.{Tag}
use Rattle.subsetter_sfnt.specs.Read.{Font, stored}
use Rattle.subsetter_variable.specs.Subset.{HasOpeningFaultAt}
use Rattle.pdf_text.specs.declared.metrics.columns.Column.{Column}
use Rattle.pdf_text.specs.declared.cmaps.named.NamedCmap.{NamedCmap}
use Rattle.pdf_text.specs.declared.values.ProgramKind.{ProgramKind}
use Rattle.pdf_text.specs.declared.values.ProgramKind.TheVariants.{TrueType, BareCff, OpenType}
use Rattle.pdf_codes.specs.Codes.{Used}
use Rattle.pdf_codes.specs.Shown.{has_long_text}
use Rattle.pdf_glyphs.specs.declared.columns.Columns.{Columns}
use Rattle.pdf_values.specs.Permission.{is_permitted, permission}
use Rattle.pdf_values.specs.declared.permission.Usage.{Usage}
use Rattle.pdf_values.specs.declared.permission.Usage.TheVariants.{Unsaid, Installable, Editable, PreviewAndPrint}
use Rattle.pdf_values.specs.declared.permission.Usage.TheVariants.{Restricted}
use Rattle.pdf_source.specs.declared.choice.FontOptions.{FontOptions}
use Rattle.pdf_font.specs.First.{CanBeOpened}
use Rattle.pdf_font.specs.PdfFont.{HasFontFault, HasNoPdfFont, IsPdfFont, font_of, lacks_outlines}
use Rattle.pdf_font.specs.declared.error.FontError.{FontError}
use Rattle.pdf_font.specs.declared.error.FontError.TheVariants.{Subset, NotPermitted, TextTooLong, BitmapsAlone}
use Rattle.pdf_font.specs.declared.font.PdfFont.{PdfFont}
use Rattle.subsetter_pdf_c.specs.declared.made.PdfMade.{PdfMade}
use Rattle.subsetter_pdf_c.specs.declared.made.PdfNumbers.{PdfNumbers}
use Rattle.subsetter_c.specs.Documents.PdfOptions.{AreFontOptionsChosen}
use Rattle.subsetter_c.specs.Answers.Status.{bitmaps_alone, invalid_text, not_permitted, status_of}

-- ---- numbers

abbrev pub kind_number : ProgramKind → ℕ
kind_number TrueType = 0
kind_number BareCff = 1
kind_number OpenType = 2

abbrev pub usage_number : Usage → ℕ
usage_number Unsaid = 0
usage_number Installable = 1
usage_number Editable = 2
usage_number PreviewAndPrint = 3
usage_number Restricted = 4

abbrev pub number_of : Bool → ℕ
number_of b = if b then 1 else 0

abbrev pub is_there : Option ℤ → ℕ
is_there None = 0
is_there (Some n) = 1

abbrev pub or_zero : Option ℤ → ℤ
or_zero None = pos 0
or_zero (Some n) = n

abbrev pub vertical_number : Option Columns → ℕ
vertical_number None = 0
vertical_number (Some c) = 1

-- DW2: y, and advance; 0 and 0 in horizontal writing
abbrev pub default_column : Option Columns → List ℤ
default_column None = pos 0 ∷ pos 0 ∷ []
default_column (Some c) = c.default.y ∷ c.default.advance ∷ []

pub record AreNumbersOf (f : PdfFont) (n : PdfNumbers) : Type 0 where
  pub kind : n.kind ≡ kind_number f.kind
  pub is_vertical : n.is_vertical ≡ vertical_number f.columns
  pub default_width : n.default_width ≡ f.default_width
  pub default_column_is : n.default_column ≡ default_column f.columns
  pub flags : n.flags ≡ f.descriptor.values.flags
  pub bounds : n.bounds
      ≡ f.descriptor.values.bounds.x_min ∷ f.descriptor.values.bounds.y_min ∷ f.descriptor.values.bounds.x_max
      ∷ f.descriptor.values.bounds.y_max ∷ []
  pub italic_angle : n.italic_angle ≡ f.descriptor.values.italic_angle
  pub ascent : n.ascent ≡ f.descriptor.values.heights.ascent
  pub descent : n.descent ≡ f.descriptor.values.heights.descent
  pub cap_height : n.cap_height ≡ f.descriptor.values.heights.cap_height
  pub has_x_height : n.has_x_height ≡ is_there f.descriptor.values.heights.x_height
  pub x_height : n.x_height ≡ or_zero f.descriptor.values.heights.x_height
  pub stem_v : n.stem_v ≡ f.descriptor.values.stem_v
  pub font_weight : n.font_weight ≡ f.descriptor.values.font_weight
  pub usage : n.usage ≡ usage_number f.permission.usage
  pub may_subset : n.may_subset ≡ number_of f.permission.subsetting
  pub may_embed_outlines : n.may_embed_outlines ≡ number_of f.permission.outlines

abbrev pub no_numbers : PdfNumbers
no_numbers =
    record {
      kind = 0;
      is_vertical = 0;
      default_width = 0;
      default_column = pos 0 ∷ pos 0 ∷ [];
      flags = 0;
      bounds = pos 0 ∷ pos 0 ∷ pos 0 ∷ pos 0 ∷ [];
      italic_angle = pos 0;
      ascent = pos 0;
      descent = pos 0;
      cap_height = pos 0;
      has_x_height = 0;
      x_height = pos 0;
      stem_v = 0;
      font_weight = 0;
      usage = 0;
      may_subset = 0;
      may_embed_outlines = 0;
    }

-- ---- lists

abbrev pub columns_of : Option Columns → List Column
columns_of None = []
columns_of (Some c) = c.each.items

abbrev pub cmap_text : Option NamedCmap → List ℕ
cmap_text None = []
cmap_text (Some c) = c.text.items

abbrev pub cmap_name : Option NamedCmap → List ℕ
cmap_name None = []
cmap_name (Some c) = c.name.items

abbrev pub bytes_of : Option (Vec ℕ Global) → List ℕ
bytes_of None = []
bytes_of (Some v) = v.items

-- the lists and numbers of a font
pub record IsLaidOut (f : PdfFont) (made : PdfMade) : Type 0 where
  pub program : made.program.now ≡ f.program.items
  pub cids : made.cids.now ≡ f.cids.items
  pub codes : made.codes.now ≡ f.codes.items
  pub is_said : made.is_said.now ≡ f.is_said.items
  pub widths : made.widths.now ≡ f.widths.items
  pub columns : made.columns.now ≡ columns_of f.columns
  pub font_name : made.font_name.now ≡ f.descriptor.font_name.items
  pub to_unicode : made.to_unicode.now ≡ f.to_unicode.items
  pub encoding : made.encoding.now ≡ cmap_text f.encoding
  pub encoding_name : made.encoding_name.now ≡ cmap_name f.encoding
  pub cid_set : made.cid_set.now ≡ bytes_of f.cid_set
  pub numbers : AreNumbersOf f made.numbers

-- all lists are empty, and all numbers 0
pub record IsEmpty (made : PdfMade) : Type 0 where
  pub program : made.program.now ≡ []
  pub cids : made.cids.now ≡ []
  pub codes : made.codes.now ≡ []
  pub is_said : made.is_said.now ≡ []
  pub widths : made.widths.now ≡ []
  pub columns : made.columns.now ≡ []
  pub font_name : made.font_name.now ≡ []
  pub to_unicode : made.to_unicode.now ≡ []
  pub encoding : made.encoding.now ≡ []
  pub encoding_name : made.encoding_name.now ≡ []
  pub cid_set : made.cid_set.now ≡ []
  pub numbers : made.numbers ≡ no_numbers

-- ---- what is handed over

-- the number of a refusal
abbrev pub refusal_status : FontError → ℕ
refusal_status (Subset e) = status_of e
refusal_status (NotPermitted permission) = not_permitted
refusal_status TextTooLong = invalid_text
refusal_status BitmapsAlone = bitmaps_alone

-- why there is no font
pub record IsFontRefused (font : Font) (settings : List (Tag × ℤ)) (options : FontOptions) (us : List Used)
    (e : FontError) : Type 0 where
  -- memory ran out, or the font or the request has a fault with that error, and then no call returns a font
  pub why : (e ≡ Subset OutOfMemory)
      ⊎ (((order : List ℕ) × HasFontFault font settings options us order e) × HasNoPdfFont font settings options us)
  -- a face without outlines is refused for that, also without memory
  pub bare : lacks_outlines font ≡ true → e ≡ BitmapsAlone
  -- and another that can't be opened
  pub unopened : lacks_outlines font ≡ false → (fault : Error) → HasOpeningFaultAt font fault
      → (d : Error) × (e ≡ Subset d) × HasOpeningFaultAt font d
  -- then one that `fsType` forbids, unless memory ran out
  pub forbidden : CanBeOpened font → is_permitted (permission (stored font (codes "OS/2"))) options.rights ≡ false
      → (e ≡ Subset OutOfMemory) ⊎ (e ≡ NotPermitted (permission (stored font (codes "OS/2"))))
  -- then one with a text that is too long
  pub long : CanBeOpened font → is_permitted (permission (stored font (codes "OS/2"))) options.rights ≡ true
      → has_long_text us ≡ true
      → (e ≡ Subset OutOfMemory) ⊎ (e ≡ TextTooLong)

-- a font is handed over, or an error: the lists and numbers, and the status
pub data IsHandedBy (Is : PdfFont → Type 0) (Why : FontError → Type 0) (made : PdfMade) (status : ℕ) : Type 0 where
  whole : (f : PdfFont) → Is f → IsLaidOut f made → status ≡ 0 → IsHandedBy Is Why made status
  refused : (e : FontError) → Why e → IsEmpty made → status ≡ refusal_status e → IsHandedBy Is Why made status

-- what a PDF has of a font is handed over, for options that the words choose
pub record IsFontMade (bytes : List ℕ) (index : ℕ) (settings : List (Tag × ℤ)) (us : List Used) (words : List ℕ)
    (made : PdfMade) (status : ℕ) : Type 0 where
  pub options : FontOptions
  pub chosen : AreFontOptionsChosen words options
  pub handed : IsHandedBy (IsPdfFont (font_of bytes index options) settings options us)
      (IsFontRefused (font_of bytes index options) settings options us) made status

-- no font is handed over, for the reason of a status
pub record IsNoFontMade (why : ℕ) (made : PdfMade) (status : ℕ) : Type 0 where
  pub empty : IsEmpty made
  pub status_is : status ≡ why
