-- What a PDF writer gets of a variable font at settings of its user coordinates, and why it doesn't.
use Rattle.std.specs.Prelude.{◌≡◌, ◌≢◌, ◌⊎◌, ℕ, List, Option, Result, Err, IfOk, IfErr, ℤ}
use Rattle.subsetter_base.specs.Indexes.{HasAllAboveZero}
use Rattle.subsetter_base.specs.declared.tag.Tag.{Tag}
use Rattle.subsetter_base.specs.declared.error.Error.{Error}
use Rattle.subsetter_base.specs.declared.error.Error.TheVariants.{OverflowError, OutOfMemory}
use Rattle.subsetter_sfnt.specs.Read.{Font}
use Rattle.subsetter.specs.Bound.{IsWithin}
use Rattle.subsetter_instance.specs.Fault.{HasInstanceFault}
use Rattle.subsetter_cff_instance.specs.Fault.{HasCffInstanceFault}
use Rattle.subsetter_variable.specs.DefaultLocation.{IsAtDefault, IsCff2Font}
use Rattle.subsetter_variable.specs.Subset.{whole, IsStatic, HasOpeningFaultAt}
use Rattle.cid_embed.specs.Embed.{numbering, HasEmbedFaultWithin, IsEmbeddingAnswer}
use Rattle.cid_embed.specs.declared.embedding.Embedded.{Embedded}

-- an embedding of the static font, which could be made within these limits, where it has no fault
pub record IsEmbeddingAnswerAt (tokens depth : ℕ) (font : Font) (settings : List (Tag × ℤ)) (glyphs : List ℕ)
    (e : Embedded) : Type 0 where
  pub static : Font
  pub is_static : IsStatic font settings (numbering glyphs) static
  pub made : (why : Error) → ¬ (IsAtDefault (whole font) settings)
      → ¬ (HasInstanceFault (whole font) settings (numbering glyphs) tokens why)
  pub cff_made : (why : Error) → IsCff2Font (whole font)
      → ¬ (HasCffInstanceFault (whole font) settings (numbering glyphs) tokens depth why)
  pub answer : IsEmbeddingAnswer tokens depth static glyphs e

-- The faults that stop it within a bound, each with its error; sizes are judged for an order of the new font's glyphs.
pub data HasEmbedFaultAt (bound : Option ℕ) (tokens depth : ℕ) (font : Font) (settings : List (Tag × ℤ))
    (glyphs order : List ℕ) : Error → Type 0 where
  -- the asked glyphs leave no number for glyph 0
  in_numbering : HasAllAboveZero glyphs → HasEmbedFaultAt bound tokens depth font settings glyphs order OverflowError
  -- elsewhere than at its default, against the instance
  in_instance : {e : Error} → ¬ (IsAtDefault (whole font) settings)
      → HasInstanceFault (whole font) settings (numbering glyphs) tokens e
      → HasEmbedFaultAt bound tokens depth font settings glyphs order e
  -- of outlines in CFF2, against the font with outlines in `CFF `
  in_cff_instance : {e : Error} → IsCff2Font (whole font)
      → HasCffInstanceFault (whole font) settings (numbering glyphs) tokens depth e
      → HasEmbedFaultAt bound tokens depth font settings glyphs order e
  -- against the embedding of the static font
  in_static : {e : Error} (static : Font) → IsStatic font settings (numbering glyphs) static
      → HasEmbedFaultWithin bound tokens depth static glyphs order e
      → HasEmbedFaultAt bound tokens depth font settings glyphs order e

-- there is no answer within the bound for the asked glyphs of a font
abbrev pub HasNoEmbeddingAt : Option ℕ → ℕ → ℕ → Font → List (Tag × ℤ) → List ℕ → Type 0
HasNoEmbeddingAt bound tokens depth font settings glyphs =
    (e : Embedded) → IsWithin bound e.font.items → ¬ (IsEmbeddingAnswerAt tokens depth font settings glyphs e)

-- ---- what a call promises

-- of its result, for the requested glyphs of a font, where a run takes at most `tokens` tokens and goes at most `depth`
-- deep, and the font has at most `bound` bytes
pub record IsEmbedPromisedAt (bound : Option ℕ) (tokens depth : ℕ)
    (font : Font) (settings : List (Tag × ℤ)) (glyphs : List ℕ)
    (result : Result Embedded Error) : Type 0 where
  -- what is returned is the answer: an embedding of the static font, which has no fault
  pub exact : IfOk result (λ e. IsEmbeddingAnswerAt tokens depth font settings glyphs e)
  -- and its font has no more bytes than it may have
  pub within : IfOk result (λ e. IsWithin bound e.font.items)
  -- what is refused has a fault with that error, or the bound is set and every answer passes it
  pub err : IfErr result (λ why.
      (why ≡ OutOfMemory) ⊎ ((order : List ℕ) × HasEmbedFaultAt bound tokens depth font settings glyphs order why))
  -- and, unless memory ran out, there is no answer within these limits
  pub no_answer : IfErr result (λ why. (why ≡ OutOfMemory) ⊎ HasNoEmbeddingAt bound tokens depth font settings glyphs)
  -- a fault that is found before memory is taken isn't reported as want of memory
  pub before_memory : (e : Error) → HasOpeningFaultAt font e → result ≢ Err OutOfMemory
