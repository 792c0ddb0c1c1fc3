-- How a font with what is new of it, and what it was made of, is handed to C (`subsetter_font`).
use Rattle.std.specs.Prelude.{◌≡◌, ℕ, List, [], map}
use Rattle.subsetter_base.specs.Bytes.{be}
use Rattle.subsetter_base.specs.declared.tag.Tag.{Tag}
use Rattle.pdf_font.specs.PdfFont.{IsPdfFont, font_of}
use Rattle.pdf_font.specs.declared.error.FontError.{FontError}
use Rattle.pdf_font.specs.declared.font.PdfFont.{PdfFont}
use Rattle.pdf_source.specs.declared.choice.FontOptions.{FontOptions}
use Rattle.std.specs.Prelude.{ℤ}
use Rattle.subsetter_pdf_c.specs.Entries.{uses_in}
use Rattle.subsetter_c.specs.Documents.PdfFonts.{IsEmpty, IsFontRefused, IsLaidOut, refusal_status}
use Rattle.subsetter_c.specs.Documents.PdfOptions.{AreFontOptionsChosen}
use Rattle.subsetter_c.specs.declared.documents.whole.FontMade.{FontMade}

-- the one size that is known: that of the struct in bytes, where a pointer has 8
abbrev pub own_size : ℕ
own_size = 368

-- a tag as a number, its first byte the highest
abbrev pub tag_number : Tag → ℕ
tag_number tag = be tag.0

-- a font with these bytes of CIDToGIDMap, and the lists that it was made of
pub record IsWholeLaidOut (f : PdfFont) (glyphs text ends glyph_map : List ℕ) (made : FontMade) : Type 0 where
  pub size : made.size ≡ own_size
  pub units_per_em : made.units_per_em ≡ f.units_per_em
  pub pdf : IsLaidOut f made.pdf
  pub exact_widths : made.exact_widths.now ≡ f.exact_widths.items
  pub unknown_axes : made.unknown_axes.now ≡ map tag_number f.unknown_axes.items
  pub glyphs_are : made.glyphs.now ≡ glyphs
  pub text_is : made.text.now ≡ text
  pub ends_are : made.ends.now ≡ ends
  pub cid_to_gid_map : made.cid_to_gid_map.now ≡ glyph_map

-- all lists are empty, and all numbers 0, but for the size
pub record IsWholeEmpty (made : FontMade) : Type 0 where
  pub size : made.size ≡ own_size
  pub units_per_em : made.units_per_em ≡ 0
  pub pdf : IsEmpty made.pdf
  pub exact_widths : made.exact_widths.now ≡ []
  pub unknown_axes : made.unknown_axes.now ≡ []
  pub glyphs : made.glyphs.now ≡ []
  pub text : made.text.now ≡ []
  pub ends : made.ends.now ≡ []
  pub cid_to_gid_map : made.cid_to_gid_map.now ≡ []

-- a font of glyphs with their texts is handed over, or an error
pub data IsWholeHandedBy (Is : PdfFont → Type 0) (Why : FontError → Type 0) (glyphs text ends : List ℕ)
    (made : FontMade) (status : ℕ) : Type 0 where
  whole : (f : PdfFont) → Is f → IsWholeLaidOut f glyphs text ends [] made → status ≡ 0
      → IsWholeHandedBy Is Why glyphs text ends made status
  refused : (e : FontError) → Why e → IsWholeEmpty made → status ≡ refusal_status e
      → IsWholeHandedBy Is Why glyphs text ends made status

-- what a PDF has of a font is handed over, for options that the words choose
pub record IsWholeMade (bytes : List ℕ) (index : ℕ) (settings : List (Tag × ℤ)) (glyphs text ends words : List ℕ)
    (made : FontMade) (status : ℕ) : Type 0 where
  pub options : FontOptions
  pub chosen : AreFontOptionsChosen words options
  pub handed : IsWholeHandedBy (IsPdfFont (font_of bytes index options) settings options (uses_in glyphs text ends))
      (IsFontRefused (font_of bytes index options) settings options (uses_in glyphs text ends)) glyphs text ends
      made status

-- no font is handed over, for the reason of a status
pub record IsNoWholeMade (why : ℕ) (made : FontMade) (status : ℕ) : Type 0 where
  pub empty : IsWholeEmpty made
  pub status_is : status ≡ why
