-- What a call for a subset promises of its result, at settings of the font's user coordinates.
use Rattle.std.specs.Prelude.{◌≡◌, ◌≢◌, ◌⊎◌, ℕ, List, Option, Result, Err, IfOk, IfErr, ℤ}
use Rattle.subsetter_base.specs.declared.tag.Tag.{Tag}
use Rattle.subsetter_base.specs.declared.error.Error.{Error}
use Rattle.subsetter_base.specs.declared.error.Error.TheVariants.{OutOfMemory}
use Rattle.subsetter_sfnt.specs.Read.{Font}
use Rattle.subsetter.specs.Bound.{IsWithin}
use Rattle.subsetter_variable.specs.Subset.{HasOpeningFaultAt, IsSubsetAt, HasFaultAt, IsAnswerAt, HasNoAnswerAt}
use Rattle.subsetter_variable.specs.Subset.{IsTheAnswerAt}

-- for these glyphs of a font, where a run takes at most `tokens` tokens and goes at most `depth` deep, and the new font
-- has at most `bound` bytes; `file` gives the bytes of what is returned
pub record IsPromisedAt {X : Type 0} (file : X → List ℕ) (bound : Option ℕ) (tokens depth : ℕ) (font : Font)
    (settings : List (Tag × ℤ)) (glyphs : List ℕ) (result : Result X Error) : Type 0 where
  -- a font that is returned is the answer: a subset of the static font
  pub exact : IfOk result (λ x. IsAnswerAt tokens depth font settings glyphs (file x))
  -- and has no more bytes than it may have
  pub within : IfOk result (λ x. IsWithin bound (file x))
  -- what is refused wants memory, or has a fault with that error, or the bound is set and every answer passes it
  pub err : IfErr result
      (λ e. (e ≡ OutOfMemory) ⊎ ((order : List ℕ) × HasFaultAt bound tokens depth font settings glyphs order e))
  -- and, unless memory ran out, there is no answer within these limits
  pub no_answer : IfErr result (λ e. (e ≡ OutOfMemory) ⊎ HasNoAnswerAt bound tokens depth font settings glyphs)
  -- a fault that is found before memory is taken isn't reported as want of memory
  pub before_memory : (e : Error) → HasOpeningFaultAt font e → result ≢ Err OutOfMemory

-- ---- what follows

-- an answer within the bound is a subset, and nothing is a fault, the size limits being judged for the answer's order
-- of glyphs
abbrev pub AnswersAreCleanAt : Type 0
AnswersAreCleanAt =
    (bound : Option ℕ) (tokens depth : ℕ) (font : Font) (settings : List (Tag × ℤ)) (glyphs out : List ℕ) →
    IsAnswerAt tokens depth font settings glyphs out → IsWithin bound out →
    (s : IsSubsetAt tokens depth font settings glyphs out)
    × ((e : Error) → ¬ (HasFaultAt bound tokens depth font settings glyphs s.subset.keeps.order e))

-- all answers for the same settings and glyphs of a font, within whatever limits, are the same bytes
abbrev pub AnswersAreOneAt : Type 0
AnswersAreOneAt = (tokens depth : ℕ) (font : Font) (settings : List (Tag × ℤ)) (glyphs out : List ℕ) →
    IsAnswerAt tokens depth font settings glyphs out → IsTheAnswerAt font settings glyphs out
