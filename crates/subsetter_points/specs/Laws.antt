-- What was written is read.
use Rattle.std.specs.Prelude.{◌≡◌, ◌<◌, ℕ, ◌++◌, List, length, Some, IsTrue}
use Rattle.subsetter_points.specs.Simple.{Outline, simple, simple_bytes, fits}

-- an outline that fits is read from its bytes
abbrev pub IsReadBack : Type 0
IsReadBack = (outline : Outline) → IsTrue (fits outline) → simple (simple_bytes outline) ≡ Some outline

-- and, if it has a contour, also where other bytes follow, as the padding to an even number
abbrev pub IsReadBackBefore : Type 0
IsReadBackBefore =
    (outline : Outline) (rest : List ℕ) → IsTrue (fits outline) → 0 < length outline
    → simple (simple_bytes outline ++ rest) ≡ Some outline
