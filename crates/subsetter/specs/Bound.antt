-- A bound on the bytes of the new font, which a caller may set.
use Rattle.std.specs.Prelude.{◌≡◌, ◌≤◌, ◌<◌, ℕ, List, length, Option, Some, IfSome}
use Rattle.subsetter_base.specs.declared.error.Error.{Error}
use Rattle.subsetter_base.specs.declared.error.Error.TheVariants.{OverflowError}
use Rattle.subsetter_sfnt.specs.Read.{Font}
use Rattle.subsetter.specs.Answer.{IsAnswer}
use Rattle.subsetter.specs.Fault.{HasFault}

-- a file has at most as many bytes as it may have, if a bound is set
abbrev pub IsWithin : Option ℕ → List ℕ → Type 0
IsWithin bound out = IfSome bound (λ most. length out ≤ most)

-- a bound is set, and any answer for these glyphs of a font is longer
pub record IsBeyond (bound : Option ℕ) (tokens depth : ℕ) (font : Font) (glyphs : List ℕ) : Type 0 where
  pub most : ℕ
  pub is_set : bound ≡ Some most
  pub longer : (out : List ℕ) → IsAnswer tokens depth font glyphs out → most < length out

-- the faults that stop a subset within a bound, each with its error
pub data HasFaultWithin (bound : Option ℕ) (tokens depth : ℕ) (font : Font) (glyphs order : List ℕ)
    : Error → Type 0 where
  in_font : {e : Error} → HasFault tokens depth font glyphs order e
      → HasFaultWithin bound tokens depth font glyphs order e
  beyond : IsBeyond bound tokens depth font glyphs → HasFaultWithin bound tokens depth font glyphs order OverflowError

-- there is no answer within the bound for these glyphs of a font
abbrev pub HasNoAnswerWithin : Option ℕ → ℕ → ℕ → Font → List ℕ → Type 0
HasNoAnswerWithin bound tokens depth font glyphs =
    (out : List ℕ) → IsWithin bound out → ¬ (IsAnswer tokens depth font glyphs out)
