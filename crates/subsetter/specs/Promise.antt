-- What a call for a subset promises of its result.
use Rattle.std.specs.Prelude.{◌≡◌, ◌≢◌, ◌⊎◌, ℕ, List, Option, None, Result, Err, IfOk, IfErr}
use Rattle.subsetter_base.specs.declared.error.Error.{Error}
use Rattle.subsetter_base.specs.declared.error.Error.TheVariants.{OutOfMemory}
use Rattle.subsetter_sfnt.specs.Fault.{HasOpeningFault}
use Rattle.subsetter_sfnt.specs.Read.{Font}
use Rattle.subsetter.specs.Answer.{IsAnswer, IsTheAnswer, HasNoAnswer}
use Rattle.subsetter.specs.Bound.{IsWithin, HasFaultWithin, HasNoAnswerWithin}
use Rattle.subsetter.specs.Fault.{HasFault}
use Rattle.subsetter.specs.Subset.{IsSubset}

-- for these glyphs of a font, where a run takes at most `tokens` tokens and goes at most `depth` deep, and the new font
-- has at most `bound` bytes; `file` gives the bytes of what is returned
pub record IsPromised {X : Type 0} (file : X → List ℕ) (bound : Option ℕ)
    (tokens depth : ℕ) (font : Font) (glyphs : List ℕ)
    (result : Result X Error) : Type 0 where
  -- a font that is returned is the answer: a subset of a font without a fault, its glyphs in the order in which they
  -- are found
  pub exact : IfOk result (λ x. IsAnswer tokens depth font glyphs (file x))
  -- and has no more bytes than it may have
  pub within : IfOk result (λ x. IsWithin bound (file x))
  -- what is refused wants memory, or has a fault with that error, or the bound is set and every answer passes it
  pub err :
      IfErr result (λ e. (e ≡ OutOfMemory) ⊎ ((order : List ℕ) × HasFaultWithin bound tokens depth font glyphs order e))
  -- and, unless memory ran out, there is no answer within these limits
  pub no_answer : IfErr result (λ e. (e ≡ OutOfMemory) ⊎ HasNoAnswerWithin bound tokens depth font glyphs)
  -- a fault that is found before memory is taken isn't reported as want of memory
  pub before_memory : (e : Error) → HasOpeningFault font e → result ≢ Err OutOfMemory

-- ---- what follows

-- an answer is a subset, and its source has no fault, the size limits being judged for the answer's order of glyphs
abbrev pub AnswersAreClean : Type 0
AnswersAreClean = (tokens depth : ℕ) (font : Font) (glyphs out : List ℕ) → IsAnswer tokens depth font glyphs out →
    (s : IsSubset tokens depth font glyphs out) × ((e : Error) → ¬ (HasFault tokens depth font glyphs s.keeps.order e))

-- all answers for the same glyphs of a font, within whatever limits, are the same bytes
abbrev pub AnswersAreOne : Type 0
AnswersAreOne =
    (tokens depth : ℕ) (font : Font) (glyphs out : List ℕ) → IsAnswer tokens depth font glyphs out
    → IsTheAnswer font glyphs out

-- where no bound is set, a fault is one of the font, and no answer is none at all
abbrev pub FaultsAreTheFonts : Type 0
FaultsAreTheFonts = (tokens depth : ℕ) (font : Font) (glyphs order : List ℕ) →
    ((e : Error) → HasFaultWithin None tokens depth font glyphs order e → HasFault tokens depth font glyphs order e) ×
    (HasNoAnswerWithin None tokens depth font glyphs → HasNoAnswer tokens depth font glyphs)
