-- What an instance of an instance is.
use Rattle.std.specs.Prelude.{◌≡◌, ℕ, List, [], ℤ}
use Rattle.subsetter_base.specs.declared.tag.Tag.{Tag}
use Rattle.subsetter_sfnt.specs.Read.{Font, as_font}
use Rattle.subsetter_instance.specs.Instance.{IsInstance}

-- at no settings and for the same glyphs it is that instance again, byte for byte
abbrev pub IsItselfAgain : Type 0
IsItselfAgain =
    (font : Font) (settings : List (Tag × ℤ)) (glyphs file again : List ℕ) → IsInstance font settings glyphs file
    → IsInstance (as_font file) [] glyphs again
    → again ≡ file
