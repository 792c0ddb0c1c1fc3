-- The answer for a font, settings of its user coordinates, glyphs and steps.
use Rattle.std.specs.Prelude.{◌≡◌, ◌≢◌, ℕ, List, Err, ℤ}
use Rattle.subsetter_base.specs.declared.tag.Tag.{Tag}
use Rattle.subsetter_base.specs.declared.error.Error.{Error}
use Rattle.subsetter_base.specs.declared.error.Error.TheVariants.{OutOfMemory}
use Rattle.subsetter_sfnt.specs.Read.{Font}
use Rattle.subsetter_instance.specs.Fault.{HasInstanceFault}
use Rattle.subsetter_instance.specs.Instance.{IsInstance}
use Rattle.subsetter_instance.specs.Plain.{instance_of}

-- an instance, where there is no fault in these steps
pub record IsAnswer (font : Font) (settings : List (Tag × ℤ)) (glyphs : List ℕ) (steps : ℕ) (file : List ℕ)
    : Type 0 where
  pub instance : IsInstance font settings glyphs file
  pub clean : (e : Error) → ¬ (HasInstanceFault font settings glyphs steps e)

-- there is no answer for these glyphs in these steps
abbrev pub HasNoAnswer : Font → List (Tag × ℤ) → List ℕ → ℕ → Type 0
HasNoAnswer font settings glyphs steps = (file : List ℕ) → ¬ (IsAnswer font settings glyphs steps file)

-- any answer for the same glyphs, in whatever number of steps, is these bytes
abbrev pub IsTheAnswer : Font → List (Tag × ℤ) → List ℕ → List ℕ → Type 0
IsTheAnswer font settings glyphs file =
    (steps : ℕ) (other : List ℕ) → IsAnswer font settings glyphs steps other → file ≡ other

-- a font of which there is no instance, whatever is asked for, and not because memory ran out
pub record IsClosed (font : Font) (e : Error) : Type 0 where
  pub refused : (settings : List (Tag × ℤ)) (glyphs : List ℕ) (steps : ℕ)
      → instance_of font settings glyphs steps ≡ Err e
  pub not_memory : e ≢ OutOfMemory
