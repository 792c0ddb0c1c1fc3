-- The answer for a font, settings of its user coordinates, glyphs and limits.
use Rattle.std.specs.Prelude.{◌≡◌, ◌≢◌, ◌⊎◌, ℕ, List, Option, Ok, Err, ℤ}
use Rattle.subsetter_base.specs.Gives.{Fails}
use Rattle.subsetter_base.specs.Within.{IsTooLong}
use Rattle.subsetter_base.specs.declared.tag.Tag.{Tag}
use Rattle.subsetter_base.specs.declared.error.Error.{Error}
use Rattle.subsetter_base.specs.declared.error.Error.TheVariants.{OutOfMemory, OverflowError}
use Rattle.subsetter_sfnt.specs.Read.{Font}
use Rattle.subsetter_cff_at.specs.Fault.{HasFault}
use Rattle.subsetter_cff_at.specs.View.{drawn_size}
use Rattle.subsetter_cff_instance.specs.CffInstance.{IsCffInstance}
use Rattle.subsetter_cff_instance.specs.Fault.{HasCffInstanceFault}
use Rattle.subsetter_cff_instance.specs.Plain.{Prepared, prepared, request_at, cff_instance_in, cff_instance_of}
use Rattle.subsetter_cff_instance.specs.Plain.{charstrings_in, charstrings_of}

-- a static font, where there is no fault within these limits
pub record IsCffAnswer (font : Font) (settings : List (Tag × ℤ)) (glyphs : List ℕ) (tokens depth : ℕ) (file : List ℕ)
    : Type 0 where
  pub instance : IsCffInstance font settings glyphs file
  pub clean : (e : Error) → ¬ (HasCffInstanceFault font settings glyphs tokens depth e)

-- there is no answer for these glyphs within these limits
abbrev pub HasNoCffAnswer : Font → List (Tag × ℤ) → List ℕ → ℕ → ℕ → Type 0
HasNoCffAnswer font settings glyphs tokens depth =
    (file : List ℕ) → ¬ (IsCffAnswer font settings glyphs tokens depth file)

-- any answer for the same glyphs, within whatever limits, is these bytes
abbrev pub IsTheCffAnswer : Font → List (Tag × ℤ) → List ℕ → List ℕ → Type 0
IsTheCffAnswer font settings glyphs file =
    (tokens depth : ℕ) (other : List ℕ) → IsCffAnswer font settings glyphs tokens depth other → file ≡ other

-- the charstrings pass a bound on bytes, which is OverflowError
abbrev pub PassesBound : Font → List (Tag × ℤ) → List ℕ → ℕ → ℕ → Option ℕ → Error → Type 0
PassesBound font settings glyphs tokens depth bound e =
    (e ≡ OverflowError) × IsTooLong bound drawn_size (charstrings_of font settings glyphs tokens depth)

-- there is a fault of the new `CFF `, of the tables that a look-up finds
pub record HasTableFault (find : List ℕ → Option (List ℕ)) (cff2 : List ℕ) (settings : List (Tag × ℤ)) (glyphs : List ℕ)
    (tokens depth : ℕ) (e : Error) : Type 0 where
  pub p : Prepared
  pub prepared_is : prepared find settings glyphs ≡ Ok p
  pub fault : HasFault cff2 (request_at glyphs p) tokens depth e

-- why the static font of these tables isn't made: memory ran out, the plain way says so, there is a fault of the new
-- `CFF `, or its charstrings pass the bound on bytes
abbrev pub FailsInstance : (List ℕ → Option (List ℕ)) → List ℕ → List (Tag × ℤ) → List ℕ → ℕ → ℕ → Option ℕ → Error
    → Type 0
FailsInstance find cff2 settings glyphs tokens depth bound e =
    Fails e (cff_instance_in find cff2 settings glyphs tokens depth)
    ⊎ (HasTableFault find cff2 settings glyphs tokens depth e
    ⊎ ((e ≡ OverflowError) × IsTooLong bound drawn_size (charstrings_in find cff2 settings glyphs tokens depth)))

-- a font of which there is no static font, whatever is asked for, and not because memory ran out
pub record IsClosedToCff (font : Font) (e : Error) : Type 0 where
  pub refused : (settings : List (Tag × ℤ)) (glyphs : List ℕ) (tokens depth : ℕ)
      → cff_instance_of font settings glyphs tokens depth ≡ Err e
  pub not_memory : e ≢ OutOfMemory
