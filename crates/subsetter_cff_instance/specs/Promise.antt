-- What a call for the static font of outlines in CFF2 promises of its result.
use Rattle.std.specs.Prelude.{◌≡◌, ◌≢◌, ◌⊎◌, ℕ, List, Option, Result, Err, IfOk, IfErr, ℤ}
use Rattle.subsetter_base.specs.declared.tag.Tag.{Tag}
use Rattle.subsetter_base.specs.declared.error.Error.{Error}
use Rattle.subsetter_base.specs.declared.error.Error.TheVariants.{OutOfMemory}
use Rattle.subsetter_sfnt.specs.Read.{Font}
use Rattle.subsetter_cff_at.specs.View.{KeepsBound}
use Rattle.subsetter_cff_instance.specs.Answer.{IsCffAnswer, HasNoCffAnswer, IsTheCffAnswer, PassesBound}
use Rattle.subsetter_cff_instance.specs.CffInstance.{IsCffInstance}
use Rattle.subsetter_cff_instance.specs.Fault.{HasCffInstanceFault, HasOutlinesFault}
use Rattle.subsetter_cff_instance.specs.Plain.{charstrings_of}

-- for settings of a font's user coordinates and these glyphs, where a charstring may run within limits of tokens and
-- depth, and all of them may have a bound on their bytes; `file` gives the bytes of what is returned
pub record IsCffInstancePromised {X : Type 0} (file : X → List ℕ) (bound : Option ℕ) (tokens depth : ℕ) (font : Font)
    (settings : List (Tag × ℤ)) (glyphs : List ℕ) (result : Result X Error) : Type 0 where
  -- a font that is returned is the answer: a static font, read afresh from its bytes, of a font without a fault
  pub exact : IfOk result (λ x. IsCffAnswer font settings glyphs tokens depth (file x))
  -- and its charstrings have no more bytes than they may have
  pub within : IfOk result (λ _. KeepsBound bound (charstrings_of font settings glyphs tokens depth))
  -- what is refused has a fault of that name, or its charstrings pass the bound
  pub err : IfErr result (λ e. (e ≡ OutOfMemory) ⊎
      (HasCffInstanceFault font settings glyphs tokens depth e ⊎ PassesBound font settings glyphs tokens depth bound e))
  -- and, unless memory ran out or they pass it, there is no answer within these limits
  pub no_answer : IfErr result (λ e. (e ≡ OutOfMemory) ⊎
      (HasNoCffAnswer font settings glyphs tokens depth ⊎ PassesBound font settings glyphs tokens depth bound e))
  -- a fault that is found before memory is taken isn't reported as want of memory
  pub before_memory : (e : Error) → HasOutlinesFault font e → result ≢ Err OutOfMemory

-- ---- what follows

-- an answer is a static font, and its source has no fault
abbrev pub CffAnswersAreClean : Type 0
CffAnswersAreClean = (font : Font) (settings : List (Tag × ℤ)) (glyphs : List ℕ) (tokens depth : ℕ) (out : List ℕ) →
    IsCffAnswer font settings glyphs tokens depth out →
    IsCffInstance font settings glyphs out × ((e : Error) → ¬ (HasCffInstanceFault font settings glyphs tokens depth e))

-- all answers for the same settings and glyphs of a font, within whatever limits, are the same bytes
abbrev pub CffAnswersAreOne : Type 0
CffAnswersAreOne = (font : Font) (settings : List (Tag × ℤ)) (glyphs : List ℕ) (tokens depth : ℕ) (out : List ℕ) →
    IsCffAnswer font settings glyphs tokens depth out → IsTheCffAnswer font settings glyphs out
