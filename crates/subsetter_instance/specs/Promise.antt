-- What a call for an instance promises of its result.
use Rattle.std.specs.Prelude.{◌≡◌, ◌≢◌, ◌⊎◌, ℕ, List, Result, Err, IfOk, IfErr, ℤ}
use Rattle.subsetter_base.specs.declared.tag.Tag.{Tag}
use Rattle.subsetter_base.specs.declared.error.Error.{Error}
use Rattle.subsetter_base.specs.declared.error.Error.TheVariants.{OutOfMemory}
use Rattle.subsetter_sfnt.specs.Fault.{HasOpeningFault}
use Rattle.subsetter_sfnt.specs.Read.{Font}
use Rattle.subsetter_instance.specs.Answer.{IsAnswer, HasNoAnswer, IsTheAnswer}
use Rattle.subsetter_instance.specs.Fault.{HasInstanceFault}
use Rattle.subsetter_instance.specs.Instance.{IsInstance}

-- for settings of a font's user coordinates and these glyphs, each of which may take this number of steps;
-- `file` gives the bytes of what is returned
pub record IsInstancePromised {X : Type 0} (file : X → List ℕ) (steps : ℕ) (font : Font) (settings : List (Tag × ℤ))
    (glyphs : List ℕ) (result : Result X Error) : Type 0 where
  -- a font that is returned is the answer: an instance, read afresh from its bytes, of a font without a fault
  pub exact : IfOk result (λ x. IsAnswer font settings glyphs steps (file x))
  -- what is refused has a fault of that name
  pub err : IfErr result (λ e. (e ≡ OutOfMemory) ⊎ HasInstanceFault font settings glyphs steps e)
  -- and, unless memory ran out, there is no answer in these steps
  pub no_answer : IfErr result (λ e. (e ≡ OutOfMemory) ⊎ HasNoAnswer font settings glyphs steps)
  -- a fault that is found before memory is taken isn't reported as want of memory
  pub before_memory : (e : Error) → HasOpeningFault font e → result ≢ Err OutOfMemory

-- ---- what follows

-- an answer is an instance, and its source has no fault
abbrev pub AnswersAreClean : Type 0
AnswersAreClean = (font : Font) (settings : List (Tag × ℤ)) (glyphs : List ℕ) (steps : ℕ) (out : List ℕ) →
    IsAnswer font settings glyphs steps out →
    IsInstance font settings glyphs out × ((e : Error) → ¬ (HasInstanceFault font settings glyphs steps e))

-- all answers for the same settings and glyphs of a font, in whatever number of steps, are the same bytes
abbrev pub AnswersAreOne : Type 0
AnswersAreOne = (font : Font) (settings : List (Tag × ℤ)) (glyphs : List ℕ) (steps : ℕ) (out : List ℕ) →
    IsAnswer font settings glyphs steps out → IsTheAnswer font settings glyphs out
