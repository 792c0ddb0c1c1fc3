-- What is returned is a static font, and the only one; what is refused has a fault.
use Rattle.std.specs.Prelude.{◌≡◌, ℕ, List, Ok, Err, ℤ}
use Rattle.subsetter_base.specs.Bytes.{IsBytes}
use Rattle.subsetter_base.specs.declared.tag.Tag.{Tag}
use Rattle.subsetter_base.specs.declared.error.Error.{Error}
use Rattle.subsetter_sfnt.specs.Read.{Font}
use Rattle.subsetter_cff_instance.specs.CffInstance.{IsCffInstance}
use Rattle.subsetter_cff_instance.specs.Fault.{HasCffInstanceFault}
use Rattle.subsetter_cff_instance.specs.Plain.{cff_instance_of}

-- the file that the plain way lays out is a static font, read afresh from its bytes
abbrev pub IsCffReadAfresh : Type 0
IsCffReadAfresh =
    (font : Font) (settings : List (Tag × ℤ)) (glyphs : List ℕ) (tokens depth : ℕ) (file : List ℕ) → IsBytes font.bytes
    → cff_instance_of font settings glyphs tokens depth ≡ Ok file
    → IsCffInstance font settings glyphs file

-- the limits decide whether there is a file, and not which
abbrev pub IsSameAtAnyLimits : Type 0
IsSameAtAnyLimits =
    (font : Font) (settings : List (Tag × ℤ)) (glyphs : List ℕ)
    (tokens depth other_tokens other_depth : ℕ) (file other : List ℕ)
    → cff_instance_of font settings glyphs tokens depth ≡ Ok file
    → cff_instance_of font settings glyphs other_tokens other_depth ≡ Ok other
    → file ≡ other

-- an error is that of a fault
abbrev pub HasCffFaultWhereRefused : Type 0
HasCffFaultWhereRefused =
    (font : Font) (settings : List (Tag × ℤ)) (glyphs : List ℕ) (tokens depth : ℕ) (e : Error)
    → cff_instance_of font settings glyphs tokens depth ≡ Err e
    → HasCffInstanceFault font settings glyphs tokens depth e

-- where there is a file, there is no fault
abbrev pub HasNoCffFaultWhereAnswered : Type 0
HasNoCffFaultWhereAnswered =
    (font : Font) (settings : List (Tag × ℤ)) (glyphs : List ℕ) (tokens depth : ℕ) (file : List ℕ)
    → cff_instance_of font settings glyphs tokens depth ≡ Ok file → (e : Error)
    → ¬ (HasCffInstanceFault font settings glyphs tokens depth e)
