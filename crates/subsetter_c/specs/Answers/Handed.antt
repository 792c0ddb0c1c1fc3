-- How bytes are handed to C: in a buffer of the caller, by a size and a status.
use Rattle.std.specs.Prelude.{◌≡◌, ◌⊎◌, ◌<◌, ◌≤◌, ℕ, List, ◌++◌, length, drop, Option, Result, Ok, Vec}
use Rattle.std.specs.Global.{Global}
use Rattle.subsetter_base.specs.Indexes.{HasAllAboveZero}
use Rattle.subsetter_base.specs.declared.error.Error.{Error}
use Rattle.subsetter_base.specs.declared.error.Error.TheVariants.{OutOfMemory, OverflowError}
use Rattle.subsetter_sfnt.specs.Read.{Font}
use Rattle.subsetter.specs.Answer.{IsAnswer, IsTheAnswer}
use Rattle.subsetter.specs.Bound.{IsWithin, HasFaultWithin, HasNoAnswerWithin}
use Rattle.subsetter_sfnt.specs.Fault.{HasOpeningFault}
use Rattle.cid_embed.specs.Embed.{numbering}
use Rattle.subsetter_c.specs.Answers.Status.{status_of, too_small}

-- a buffer that begins with these items, and is unchanged after them
abbrev pub begun_with : {A : Type 0} → List A → List A → List A
begun_with items buffer = items ++ drop (length items) buffer

-- ---- bytes in one buffer

-- bytes of which `Is` holds, or an error of which `Why` holds, are handed over: the buffer before and after, the size
-- that is told, and the status
pub data IsHandedOver (Is : List ℕ → Type 0) (Why : Error → Type 0) (before after : List ℕ) (told status : ℕ)
    : Type 0 where
  -- they are at the front of the buffer
  whole : (bytes : List ℕ) → Is bytes → length bytes ≤ length before → after ≡ begun_with bytes before
      → told ≡ length bytes → status ≡ 0
      → IsHandedOver Is Why before after told status
  -- the buffer is too small and unchanged, and the exact size is told
  short : (bytes : List ℕ) → Is bytes → length before < length bytes → after ≡ before → told ≡ length bytes
      → status ≡ too_small
      → IsHandedOver Is Why before after told status
  -- the buffer is unchanged
  refused : (e : Error) → Why e → after ≡ before → told ≡ 0 → status ≡ status_of e
      → IsHandedOver Is Why before after told status

-- a call has returned these bytes
abbrev pub IsAnswered : Result (Vec ℕ Global) Error → List ℕ → Type 0
IsAnswered answer bytes = (v : Vec ℕ Global) × (answer ≡ Ok v) × (v.items ≡ bytes)

-- nothing is handed over, for the reason of a status
pub record IsNothingHanded (why : ℕ) (before after : List ℕ) (told status : ℕ) : Type 0 where
  pub unchanged : after ≡ before
  pub none : told ≡ 0
  pub status_is : status ≡ why

-- ---- a subset

-- what is returned for glyph 0 and the given glyphs
pub record IsSoundSubset (bound : Option ℕ) (tokens depth : ℕ) (font : Font) (glyphs out : List ℕ) : Type 0 where
  -- a subset, where the source has no fault, the size limits being judged for its order of glyphs; they are in the
  -- order in which they are found
  pub answer : IsAnswer tokens depth font (numbering glyphs) out
  -- any answer for the same glyphs of the font, within these limits or others, is these bytes: so is what a second call
  -- returns
  pub same : IsTheAnswer font (numbering glyphs) out
  -- no longer than it may be
  pub within : IsWithin bound out

-- its faults within a bound, but for want of memory
pub data HasCallFault (bound : Option ℕ) (tokens depth : ℕ) (font : Font) (glyphs : List ℕ) : Error → Type 0 where
  -- the glyphs leave no number for glyph 0
  in_numbering : HasAllAboveZero glyphs → HasCallFault bound tokens depth font glyphs OverflowError
  in_subset : {e : Error} → (order : List ℕ) → HasFaultWithin bound tokens depth font (numbering glyphs) order e
      → HasCallFault bound tokens depth font glyphs e

-- memory ran out, and there is none of these faults, which are found before memory is taken
pub record IsOutOfMemory (HasEarlyFault : Error → Type 0) (e : Error) : Type 0 where
  pub is : e ≡ OutOfMemory
  pub opens : (why : Error) → ¬ (HasEarlyFault why)

-- why no subset is returned: memory ran out, or there is a fault, and then no call returns one
abbrev pub IsRefusal : Option ℕ → ℕ → ℕ → Font → List ℕ → Error → Type 0
IsRefusal bound tokens depth font glyphs e =
    IsOutOfMemory (HasOpeningFault font) e
    ⊎ (HasCallFault bound tokens depth font glyphs e × HasNoAnswerWithin bound tokens depth font (numbering glyphs))

-- a subset is handed over
abbrev pub IsSubsetHanded : Option ℕ → ℕ → ℕ → Font → List ℕ → List ℕ → List ℕ → ℕ → ℕ → Type 0
IsSubsetHanded bound tokens depth font glyphs =
    IsHandedOver (IsSoundSubset bound tokens depth font glyphs) (IsRefusal bound tokens depth font glyphs)
