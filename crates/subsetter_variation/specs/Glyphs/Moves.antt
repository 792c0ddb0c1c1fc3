-- Laws of what a tuple moves the points of a contour by.
use Rattle.std.specs.Prelude.{◌≡◌, ℕ, ◌<◌, ℤ, pos, ◌*ℤ◌, ◌≤ℤ◌, ◌⊎◌, List, ◌++◌, take, drop, length, slice_get, Some}
use Rattle.std.specs.Prelude.{None, All}
use Rattle.subsetter_variation.specs.declared.glyphs.inference.Point.{Point}
use Rattle.subsetter_variation.specs.declared.glyphs.inference.Touched.{Touched}
use Rattle.subsetter_variation.specs.Glyphs.Inferred.{between, first_touched, inferred, last_touched, moved, touched}

-- at the scalar 0 nothing moves
abbrev pub IsZeroAtScalarZero : Type 0
IsZeroAtScalarZero = (contour : List Point) (k : ℕ) → moved contour k (pos 0) ≡ pos 0

-- a contour read from the point k on, round its end
abbrev pub rotated : List Point → ℕ → List Point
rotated contour k = drop k contour ++ take k contour

-- an untouched point moves as between the last touched point and the first one of the contour that is turned so that it
-- comes first
abbrev pub IsRotated : Type 0
IsRotated =
    (contour : List Point) (k : ℕ) (p : Point) (scalar : ℤ) → slice_get contour k ≡ Some p → p.delta ≡ None
    → moved contour k scalar
    ≡ inferred p.at (last_touched (rotated contour k)) (first_touched (rotated contour k)) scalar

-- no point is touched but one like t
abbrev pub IsOnly : Touched → List Point → Type 0
IsOnly t contour = All (λ p. (touched p ≡ None) ⊎ (touched p ≡ Some t)) contour

-- one touched point moves all points of its contour by its delta
abbrev pub IsShift : Type 0
IsShift =
    (contour : List Point) (k : ℕ) (t : Touched) (scalar : ℤ) → k < length contour → IsOnly t contour
    → last_touched contour ≡ Some t
    → moved contour k scalar ≡ scalar *ℤ t.delta

-- z is between a and b
abbrev pub IsBetween : ℤ → ℤ → ℤ → Type 0
IsBetween z a b = ((a ≤ℤ z) × (z ≤ℤ b)) ⊎ ((b ≤ℤ z) × (z ≤ℤ a))

-- an inferred delta is between the scaled deltas of its neighbours, which aren't at one coordinate
abbrev pub IsBetweenNeighbours : Type 0
IsBetweenNeighbours =
    (x : ℤ) (one other : Touched) (scalar : ℤ) → (one.at ≡ other.at → ⊥)
    → IsBetween (between x one other scalar) (scalar *ℤ one.delta) (scalar *ℤ other.delta)
