-- The glyphs of characters, handed to C.
use Rattle.std.specs.Prelude.{◌≡◌, ◌⊎◌, ℕ, List, map, Some, None, Err}
use Rattle.subsetter_base.specs.declared.error.Error.{Error}
use Rattle.subsetter_sfnt.specs.Plain.{opened}
use Rattle.subsetter_sfnt.specs.Read.{Font}
use Rattle.text_glyphs.specs.Choice.{character_glyph}
use Rattle.text_glyphs.specs.Faces.{face_source}
use Rattle.text_glyphs.specs.Reading.{Source}
use Rattle.subsetter_c.specs.Answers.Handed.{IsHandedOver, IsNothingHanded, IsOutOfMemory}
use Rattle.subsetter_c.specs.Answers.Status.{no_cmap}

-- why the directory of a face can't be read; it needs no outlines
abbrev pub IsUnread : Font → Error → Type 0
IsUnread font e = opened font ≡ Err e

-- the glyph of each character of a text
pub record AreGlyphsOf (font : Font) (text glyphs : List ℕ) : Type 0 where
  pub opens : (e : Error) → ¬ (IsUnread font e)
  pub source : Source
  pub found : face_source font ≡ Some source
  pub are : glyphs ≡ map (character_glyph source.table) text

-- a face that can be read has no table by which characters have glyphs
pub record HasNoCmap (font : Font) : Type 0 where
  pub opens : (why : Error) → ¬ (IsUnread font why)
  pub none : face_source font ≡ None

-- why there are no glyphs but for this
abbrev pub IsGlyphRefusal : Font → Error → Type 0
IsGlyphRefusal font e = IsOutOfMemory (IsUnread font) e ⊎ IsUnread font e

-- glyphs are handed over, or the reason why there are none: the buffer before and after, the size, and the status
abbrev pub AreGlyphsHanded : Font → List ℕ → List ℕ → List ℕ → ℕ → ℕ → Type 0
AreGlyphsHanded font text before after told status =
    (HasNoCmap font × IsNothingHanded no_cmap before after told status)
    ⊎ IsHandedOver (AreGlyphsOf font text) (IsGlyphRefusal font) before after told status
