-- How coordinates on the axes of a variable font come from C, and what is handed to it of a subset at them.
use Rattle.std.specs.Prelude.{◌≡◌, ◌⊎◌, ℕ, List, map, Option, ℤ}
use Rattle.std.specs.Int.{w32, to_be_bytes}
use Rattle.subsetter_base.specs.Indexes.{HasAllAboveZero}
use Rattle.subsetter_base.specs.declared.tag.Tag.{Tag}
use Rattle.subsetter_base.specs.declared.error.Error.{Error}
use Rattle.subsetter_base.specs.declared.error.Error.TheVariants.{OverflowError}
use Rattle.subsetter_sfnt.specs.Read.{Font}
use Rattle.subsetter.specs.Bound.{IsWithin}
use Rattle.cid_embed.specs.Embed.{numbering}
use Rattle.subsetter_variable.specs.Afresh.{HasGlyphsDrawn}
use Rattle.subsetter_variable.specs.Blended.{HasGlyphsBlended}
use Rattle.subsetter_variable.specs.DefaultLocation.{IsAtDefault, IsCff2Font}
use Rattle.subsetter_variable.specs.Subset.{whole, HasOpeningFaultAt, IsAnswerAt, HasFaultAt, HasNoAnswerAt}
use Rattle.subsetter_variable.specs.Subset.{IsTheAnswerAt}
use Rattle.cid_embed.specs.declared.embedding.Embedded.{Embedded}
use Rattle.cid_embed_at.specs.Embed.{IsEmbeddingAnswerAt, HasEmbedFaultAt, HasNoEmbeddingAt}
use Rattle.subsetter_c.specs.Answers.Embedding.{Buffers, lists_of, AreHandedOver}
use Rattle.subsetter_c.specs.Answers.Handed.{IsHandedOver, IsOutOfMemory}
use Rattle.subsetter_c.specs.Answers.Made.{IsMade, IsFontMade}
use Rattle.subsetter_c.specs.declared.answers.handing.Sizes.{Sizes}
use Rattle.subsetter_c.specs.declared.settings.Coordinate.{Coordinate}

-- the tag has the bytes of its number, the highest first
abbrev pub setting : Coordinate → Tag × ℤ
setting coordinate = (record { 0 = to_be_bytes w32 coordinate.tag }, coordinate.value)

abbrev pub settings_of : List Coordinate → List (Tag × ℤ)
settings_of coordinates = map setting coordinates

-- what is returned for glyph 0 and the given glyphs, as they are at these settings
pub record IsSoundSubsetAt (bound : Option ℕ) (tokens depth : ℕ) (font : Font) (settings : List (Tag × ℤ))
    (glyphs out : List ℕ) : Type 0 where
  -- a subset of the font as it is, at its default, or else of its instance, or of the font with outlines in `CFF ` that
  -- is made of outlines in CFF2, where they have no fault
  pub answer : IsAnswerAt tokens depth font settings (numbering glyphs) out
  -- any answer for the same settings and glyphs, within these limits or others, is these bytes
  pub same : IsTheAnswerAt font settings (numbering glyphs) out
  -- elsewhere than at its default it has these glyphs and no other, each as it is drawn there, read afresh
  pub drawn : ¬ (IsAtDefault (whole font) settings) → HasGlyphsDrawn (whole font) settings (numbering glyphs) out
  -- of outlines in CFF2 alone it has these glyphs and no other, each with the outline that it has there, each
  -- coordinate and each edge of a stem rounded once, read afresh
  pub drawn_cff : IsCff2Font (whole font) → HasGlyphsBlended (whole font) settings (numbering glyphs) out
  -- no longer than it may be
  pub within : IsWithin bound out

-- its faults within a bound, but for want of memory
pub data HasCallFaultAt (bound : Option ℕ) (tokens depth : ℕ) (font : Font) (settings : List (Tag × ℤ))
    (glyphs : List ℕ) : Error → Type 0 where
  -- the glyphs leave no number for glyph 0
  in_numbering : HasAllAboveZero glyphs → HasCallFaultAt bound tokens depth font settings glyphs OverflowError
  in_subset : {e : Error} → (order : List ℕ) → HasFaultAt bound tokens depth font settings (numbering glyphs) order e
      → HasCallFaultAt bound tokens depth font settings glyphs e

-- why no subset is returned: memory ran out, or there is a fault, and then no call returns one
abbrev pub IsRefusalAt : Option ℕ → ℕ → ℕ → Font → List (Tag × ℤ) → List ℕ → Error → Type 0
IsRefusalAt bound tokens depth font settings glyphs e =
    IsOutOfMemory (HasOpeningFaultAt font) e
    ⊎ (HasCallFaultAt bound tokens depth font settings glyphs e
    × HasNoAnswerAt bound tokens depth font settings (numbering glyphs))

-- a subset is handed over in a buffer of the caller
abbrev pub IsSubsetHandedAt : Option ℕ → ℕ → ℕ → Font → List (Tag × ℤ) → List ℕ → List ℕ → List ℕ → ℕ → ℕ → Type 0
IsSubsetHandedAt bound tokens depth font settings glyphs =
    IsHandedOver (IsSoundSubsetAt bound tokens depth font settings glyphs)
    (IsRefusalAt bound tokens depth font settings glyphs)

-- a subset, in memory of the library
abbrev pub IsSubsetMadeAt : Option ℕ → ℕ → ℕ → Font → List (Tag × ℤ) → List ℕ → Buffers → ℕ → Type 0
IsSubsetMadeAt bound tokens depth font settings glyphs =
    IsFontMade (IsSoundSubsetAt bound tokens depth font settings glyphs)
    (IsRefusalAt bound tokens depth font settings glyphs)

-- ---- with CIDs and widths

-- what is returned, as it is at these settings
pub record IsSoundEmbeddingAt (bound : Option ℕ) (tokens depth : ℕ) (font : Font) (settings : List (Tag × ℤ))
    (glyphs : List ℕ) (e : Embedded) : Type 0 where
  -- an embedding of the font as it is, at its default, or else of its instance, or of the font with outlines in `CFF `
  -- that is made of outlines in CFF2, where they have no fault
  pub answer : IsEmbeddingAnswerAt tokens depth font settings glyphs e
  -- any answer for the same settings and glyphs, within these limits or others, is these three lists
  pub same : (more deeper : ℕ) (other : Embedded) → IsEmbeddingAnswerAt more deeper font settings glyphs other
      → lists_of e ≡ lists_of other
  -- elsewhere than at its default its font has these glyphs and no other, each as it is drawn there, read afresh
  pub drawn : ¬ (IsAtDefault (whole font) settings)
      → HasGlyphsDrawn (whole font) settings (numbering glyphs) e.font.items
  -- of outlines in CFF2 alone its font has these glyphs and no other, each with the outline that it has there, each
  -- coordinate and each edge of a stem rounded once, read afresh
  pub drawn_cff : IsCff2Font (whole font) → HasGlyphsBlended (whole font) settings (numbering glyphs) e.font.items
  -- its font is no longer than it may be
  pub within : IsWithin bound e.font.items

-- why nothing is returned: memory ran out, or there is a fault, and then no call returns anything
abbrev pub IsEmbeddingRefusalAt : Option ℕ → ℕ → ℕ → Font → List (Tag × ℤ) → List ℕ → Error → Type 0
IsEmbeddingRefusalAt bound tokens depth font settings glyphs why =
    IsOutOfMemory (HasOpeningFaultAt font) why
    ⊎ (((order : List ℕ) × HasEmbedFaultAt bound tokens depth font settings glyphs order why)
    × HasNoEmbeddingAt bound tokens depth font settings glyphs)

-- a subset with its CIDs and widths is handed over in buffers of the caller
abbrev pub IsEmbeddingHandedAt : Option ℕ → ℕ → ℕ → Font → List (Tag × ℤ) → List ℕ → Buffers → Buffers → Sizes → ℕ
    → Type 0
IsEmbeddingHandedAt bound tokens depth font settings glyphs =
    AreHandedOver (IsSoundEmbeddingAt bound tokens depth font settings glyphs)
    (IsEmbeddingRefusalAt bound tokens depth font settings glyphs)

-- in memory of the library
abbrev pub IsEmbeddingMadeAt : Option ℕ → ℕ → ℕ → Font → List (Tag × ℤ) → List ℕ → Buffers → ℕ → Type 0
IsEmbeddingMadeAt bound tokens depth font settings glyphs =
    IsMade (λ made. (e : Embedded) × IsSoundEmbeddingAt bound tokens depth font settings glyphs e × (made ≡ lists_of e))
    (IsEmbeddingRefusalAt bound tokens depth font settings glyphs)
