-- What a PDF writer gets of a font for the glyphs that it asks for, and why it doesn't.
use Rattle.std.specs.Prelude.{◌≡◌, ◌≢◌, ◌⊎◌, ℕ, List, [], ◌∷◌, map, Option, Some, Result, Err, IfOk, IfErr}
use Rattle.subsetter_base.specs.Indexes.{index_of, with_glyphs, HasAllAboveZero}
use Rattle.subsetter_base.specs.declared.error.Error.{Error}
use Rattle.subsetter_base.specs.declared.error.Error.TheVariants.{OverflowError, OutOfMemory}
use Rattle.subsetter_sfnt.specs.Read.{Font}
use Rattle.subsetter.specs.Subset.{IsSubset}
use Rattle.subsetter.specs.Answer.{IsAnswer}
use Rattle.subsetter.specs.Bound.{IsWithin, IsBeyond}
use Rattle.subsetter.specs.Fault.{HasFault}
use Rattle.subsetter_sfnt.specs.Fault.{HasOpeningFault}
use Rattle.cid_embed.specs.Width.{width, HasWidthFault}
use Rattle.cid_embed.specs.declared.embedding.Embedded.{Embedded}

-- the glyphs by their new numbers: 0, then the asked ones in order, each once
abbrev pub numbering : List ℕ → List ℕ
numbering glyphs = with_glyphs (0 ∷ []) glyphs

-- the faults that stop numbering the asked glyphs of a font, each with its error
pub data HasMapperFault (font : Font) (glyphs : List ℕ) : Error → Type 0 where
  -- they leave no number for glyph 0
  all_asked : HasAllAboveZero glyphs → HasMapperFault font glyphs OverflowError
  -- the font can't be opened
  unopened : {e : Error} → HasOpeningFault font e → HasMapperFault font glyphs e

-- a subset of the font for the asked glyphs, with their CIDs and the widths; a charstring is run within two limits
pub record IsEmbedded (tokens depth : ℕ) (font : Font) (glyphs : List ℕ) (e : Embedded) : Type 0 where
  pub subset : IsSubset tokens depth font (numbering glyphs) e.font.items
  -- a CID for each asked glyph, in the order asked for: its new number
  pub cids : map Some e.cids.items ≡ map (index_of (numbering glyphs)) glyphs
  -- a width for each CID, from 0 on: that of its glyph in the source
  pub widths : map Some e.widths.items ≡ map (width font) (numbering glyphs)

-- the faults that stop it, each with its error; the size limits are judged for an order of the new font's glyphs
pub data HasEmbedFault (tokens depth : ℕ) (font : Font) (glyphs order : List ℕ) : Error → Type 0 where
  -- the asked glyphs leave no number for glyph 0
  in_numbering : HasAllAboveZero glyphs → HasEmbedFault tokens depth font glyphs order OverflowError
  -- there is no subset
  in_subset : {e : Error} → HasFault tokens depth font (numbering glyphs) order e
      → HasEmbedFault tokens depth font glyphs order e
  -- there are no widths
  in_widths : {e : Error} → HasWidthFault font e → HasEmbedFault tokens depth font glyphs order e

-- the answer: it has no fault, and its font is the answer for glyph 0 and the asked glyphs
pub record IsEmbeddingAnswer (tokens depth : ℕ) (font : Font) (glyphs : List ℕ) (e : Embedded) : Type 0 where
  pub embedded : IsEmbedded tokens depth font glyphs e
  pub clean : (why : Error) → ¬ (HasEmbedFault tokens depth font glyphs embedded.subset.keeps.order why)
  pub font_is : IsAnswer tokens depth font (numbering glyphs) e.font.items

-- there is no answer for the asked glyphs of a font
abbrev pub HasNoEmbedding : ℕ → ℕ → Font → List ℕ → Type 0
HasNoEmbedding tokens depth font glyphs = (e : Embedded) → ¬ (IsEmbeddingAnswer tokens depth font glyphs e)

-- ---- within a bound on the bytes of the font

-- the faults that stop it within a bound, each with its error
pub data HasEmbedFaultWithin (bound : Option ℕ) (tokens depth : ℕ) (font : Font) (glyphs order : List ℕ)
    : Error → Type 0 where
  in_font : {e : Error} → HasEmbedFault tokens depth font glyphs order e
      → HasEmbedFaultWithin bound tokens depth font glyphs order e
  -- a bound is set, and every answer is longer
  beyond : IsBeyond bound tokens depth font (numbering glyphs)
      → HasEmbedFaultWithin bound tokens depth font glyphs order OverflowError

-- there is no answer within the bound for the asked glyphs of a font
abbrev pub HasNoEmbeddingWithin : Option ℕ → ℕ → ℕ → Font → List ℕ → Type 0
HasNoEmbeddingWithin bound tokens depth font glyphs =
    (e : Embedded) → IsWithin bound e.font.items → ¬ (IsEmbeddingAnswer tokens depth font glyphs e)

-- ---- what a call promises

-- of its result, for the requested glyphs of a font, where a run takes at most `tokens` tokens and goes at most `depth`
-- deep, and the font has at most `bound` bytes
pub record IsEmbedPromised (bound : Option ℕ) (tokens depth : ℕ) (font : Font) (glyphs : List ℕ)
    (result : Result Embedded Error) : Type 0 where
  -- what is returned is the answer: a subset of a font without a fault, with CIDs and widths
  pub exact : IfOk result (λ e. IsEmbeddingAnswer tokens depth font glyphs e)
  -- and its font has no more bytes than it may have
  pub within : IfOk result (λ e. IsWithin bound e.font.items)
  -- what is refused has a fault with that error, or the bound is set and every answer passes it
  pub err : IfErr result
      (λ why. (why ≡ OutOfMemory) ⊎ ((order : List ℕ) × HasEmbedFaultWithin bound tokens depth font glyphs order why))
  -- and, unless memory ran out, there is no answer within these limits
  pub no_answer : IfErr result (λ why. (why ≡ OutOfMemory) ⊎ HasNoEmbeddingWithin bound tokens depth font glyphs)
  -- a fault that is found before memory is taken isn't reported as want of memory
  pub before_memory : (e : Error) → HasOpeningFault font e → result ≢ Err OutOfMemory
