-- Inferred deltas of points that a tuple gives none (OpenType, "gvar": "Inferred deltas for un-referenced point
-- numbers"), along one axis.
use Rattle.std.specs.Prelude.{ℕ, ◌+◌, ℤ, pos, ◌+ℤ◌, ◌-ℤ◌, ◌*ℤ◌, unsigned_abs, int_le, if◌then◌else◌, List, [], ◌∷◌}
use Rattle.std.specs.Prelude.{take, drop, slice_get, Option, Some, None, option_map}
use Rattle.std.specs.Option.{option_or}
use Rattle.std.specs.Ordering.{int_eq}
use Rattle.subsetter_variation.specs.declared.glyphs.inference.Point.{Point}
use Rattle.subsetter_variation.specs.declared.glyphs.inference.Touched.{Touched}
use Rattle.subsetter_variation.specs.Nearest.{nearest}

-- the delta of an untouched point at x between two touched points, the lower one first, in parts of the scalar's unit:
-- each of their deltas counts by how near its point is
unfoldable pub interpolated : ℤ → Touched → Touched → ℤ → ℤ
interpolated x low high scalar =
    nearest (scalar *ℤ (low.delta *ℤ (high.at -ℤ x) +ℤ high.delta *ℤ (x -ℤ low.at))) (unsigned_abs (high.at -ℤ low.at))

-- the same of an untouched point anywhere, from two touched points of which the first isn't higher than the second.
-- Where they are at one coordinate it is their common delta, or 0 if their deltas differ; a point that isn't above the
-- low one takes that one's delta, and one that isn't below the high one takes that one's
unfoldable pub between_ordered : ℤ → Touched → Touched → ℤ → ℤ
between_ordered x low high scalar =
    if int_eq low.at high.at then (if int_eq low.delta high.delta then scalar *ℤ low.delta else pos 0)
    else if int_le x low.at then scalar *ℤ low.delta
    else if int_le high.at x then scalar *ℤ high.delta
    else interpolated x low high scalar

-- the same from two touched points in any order
unfoldable pub between : ℤ → Touched → Touched → ℤ → ℤ
between x one other scalar =
    if int_le one.at other.at then between_ordered x one other scalar else between_ordered x other one scalar

-- a point as a touched one, if the tuple gives it a delta
abbrev pub touched : Point → Option Touched
touched p = option_map (λ d. record { at = p.at; delta = d }) p.delta

-- the touched point with the lowest number, and the one with the highest
abbrev pub first_touched : List Point → Option Touched
first_touched [] = None
first_touched (p ∷ ps) = option_or (touched p) (first_touched ps)

abbrev pub last_touched : List Point → Option Touched
last_touched [] = None
last_touched (p ∷ ps) = option_or (last_touched ps) (touched p)

-- the touched point with the highest number below k; where none is below it, the one with the highest number in the
-- contour
abbrev pub before : List Point → ℕ → Option Touched
before contour k = option_or (last_touched (take k contour)) (last_touched contour)

-- the touched point with the lowest number above k; where none is above it, the one with the lowest number in the
-- contour
abbrev pub after : List Point → ℕ → Option Touched
after contour k = option_or (first_touched (drop (k + 1) contour)) (first_touched contour)

-- the inferred delta of a point at x: 0 where its contour has no touched point
abbrev pub inferred : ℤ → Option Touched → Option Touched → ℤ → ℤ
inferred x (Some one) (Some other) scalar = between x one other scalar
inferred x _ _ scalar = pos 0

-- what a tuple moves a point by: its own delta, or the inferred one
abbrev pub delta_or : Option ℤ → ℤ → Option Touched → Option Touched → ℤ → ℤ
delta_or (Some d) x one other scalar = scalar *ℤ d
delta_or None x one other scalar = inferred x one other scalar

-- what a tuple moves the point k of a contour by
abbrev pub moved_at : Option Point → Option Touched → Option Touched → ℤ → ℤ
moved_at None one other scalar = pos 0
moved_at (Some p) one other scalar = delta_or p.delta p.at one other scalar

unfoldable pub moved : List Point → ℕ → ℤ → ℤ
moved contour k scalar = moved_at (slice_get contour k) (before contour k) (after contour k) scalar
