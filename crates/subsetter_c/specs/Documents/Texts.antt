-- How a font of a text in UTF-8 is handed to C.
use Rattle.std.specs.Prelude.{◌≡◌, ℕ, ℤ, List, length}
use Rattle.std.specs.Str.{encode_utf8_all}
use Rattle.subsetter_base.specs.declared.error.Error.{Error}
use Rattle.subsetter_base.specs.declared.tag.Tag.{Tag}
use Rattle.subsetter_sfnt.specs.Extras.{all_extras}
use Rattle.subsetter_sfnt.specs.FontAt.{font_at}
use Rattle.pdf_font.specs.PdfFont.{IsPdfFont, font_of}
use Rattle.pdf_source.specs.declared.choice.FontOptions.{FontOptions}
use Rattle.subsetter_pdf_c.specs.Entries.{uses_in}
use Rattle.subsetter_pdf_c.specs.Texts.{one_each}
use Rattle.subsetter_c.specs.Answers.Status.{no_cmap, status_of}
use Rattle.subsetter_c.specs.Documents.PdfFonts.{IsFontRefused}
use Rattle.subsetter_c.specs.Documents.PdfGlyphs.{AreGlyphsOf, HasNoCmap, IsGlyphRefusal}
use Rattle.subsetter_c.specs.Documents.PdfOptions.{AreFontOptionsChosen}
use Rattle.subsetter_c.specs.Documents.Whole.{IsWholeEmpty, IsWholeHandedBy}
use Rattle.subsetter_c.specs.declared.documents.whole.FontMade.{FontMade}

-- characters of a text, the glyph of each, and where each ends, which is a text of one character
pub record AreLookedUp (bytes : List ℕ) (index : ℕ) (text glyphs characters ends : List ℕ) : Type 0 where
  pub characters_are : encode_utf8_all characters ≡ text
  pub glyphs_are : AreGlyphsOf (font_at bytes index all_extras) characters glyphs
  pub ends_are : ends ≡ one_each 0 (length characters)

-- a font for these, or the reason why there is none; or the reason why there are no glyphs
pub data IsTextHandedBy (bytes : List ℕ) (index : ℕ) (settings : List (Tag × ℤ)) (text : List ℕ) (options : FontOptions)
    (made : FontMade) (status : ℕ) : Type 0 where
  looked_up : (glyphs characters ends : List ℕ) → AreLookedUp bytes index text glyphs characters ends
      → IsWholeHandedBy (IsPdfFont (font_of bytes index options) settings options (uses_in glyphs characters ends))
      (IsFontRefused (font_of bytes index options) settings options (uses_in glyphs characters ends)) glyphs
      characters ends made status
      → IsTextHandedBy bytes index settings text options made status
  unmapped : HasNoCmap (font_at bytes index all_extras) → IsWholeEmpty made → status ≡ no_cmap
      → IsTextHandedBy bytes index settings text options made status
  no_glyphs : (e : Error) → IsGlyphRefusal (font_at bytes index all_extras) e → IsWholeEmpty made → status ≡ status_of e
      → IsTextHandedBy bytes index settings text options made status

-- the same for options that the words choose
pub record IsTextMade (bytes : List ℕ) (index : ℕ) (settings : List (Tag × ℤ)) (text words : List ℕ) (made : FontMade)
    (status : ℕ) : Type 0 where
  pub options : FontOptions
  pub chosen : AreFontOptionsChosen words options
  pub handed : IsTextHandedBy bytes index settings text options made status
