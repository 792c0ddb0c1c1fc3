-- Where the points of a glyph go along one axis (OpenType, "gvar": "Glyph variation data").
use Rattle.std.specs.Prelude.{◌≡◌, ℕ, ◌+◌, ◌-◌, ◌^◌, ◌<◌, ◌≤◌, ◌==◌, ℤ, pos, ◌+ℤ◌, ◌*ℤ◌, nat_le, if◌then◌else◌, List}
use Rattle.std.specs.Prelude.{[], ◌∷◌, length, slice_get, slice_range, slice_index_or, Option, Some, None, option_map}
use Rattle.std.specs.Prelude.{map, zip}
use Rattle.std.specs.List.{range_with_len}
use Rattle.subsetter_variation.specs.declared.glyphs.inference.Point.{Point}
use Rattle.subsetter_variation.specs.Glyphs.Inferred.{moved}
use Rattle.subsetter_variation.specs.Packing.Packed.{deltas}

-- the ends of the contours of n points, of which the first is the point start: each is the number of a contour's last
-- point
abbrev pub AreEnds : ℕ → List ℕ → ℕ → Type 0
AreEnds start [] n = start ≡ n
AreEnds start (end ∷ ends) n = (start ≤ end) × (end < n) × AreEnds (end + 1) ends n

-- what a tuple moves the point k of a glyph by, where it isn't before start: its contour goes to the first end that
-- isn't below k
abbrev pub moved_in : List Point → ℕ → List ℕ → ℕ → ℤ → ℤ
moved_in points start [] k scalar = pos 0
moved_in points start (end ∷ ends) k scalar =
    if nat_le k end then moved (slice_range points start (end + 1)) (k - start) scalar
    else moved_in points (end + 1) ends k scalar

-- the delta that is listed for the point k, if any
abbrev pub listed_delta : Option ℤ → List ℕ → List ℤ → ℕ → Option ℤ
listed_delta found [] deltas k = found
listed_delta found (n ∷ numbers) [] k = found
listed_delta found (n ∷ numbers) (d ∷ deltas) k = listed_delta (if n == k then Some d else found) numbers deltas k

-- without point numbers the deltas are those of all points
abbrev pub delta_of : Option (List ℕ) → List ℤ → ℕ → Option ℤ
delta_of None deltas k = slice_get deltas k
delta_of (Some numbers) deltas k = listed_delta None numbers deltas k

-- of each of n points the delta that a tuple gives it, if any
abbrev pub deltas_by_point : ℕ → Option (List ℕ) → List ℤ → List (Option ℤ)
deltas_by_point n numbers deltas = map (delta_of numbers deltas) (range_with_len 0 n)

-- the points of a glyph with the deltas that a tuple gives
abbrev pub points : List ℤ → List (Option ℤ) → List Point
points coordinates deltas = map (λ p. record { at = p.0; delta = p.1 }) (zip coordinates deltas)

-- the same before a tuple gives any of them a delta
abbrev pub untouched : List ℤ → List Point
untouched coordinates = map (λ x. record { at = x; delta = None }) coordinates

-- where points lie, and the deltas that they have
abbrev pub ats_of : List Point → List ℤ
ats_of ps = map (λ p. p.at) ps

abbrev pub deltas_of : List Point → List (Option ℤ)
deltas_of ps = map (λ p. p.delta) ps

-- the sums of the points, and what a tuple moves each by on top: always from the coordinates of the default outline
abbrev pub added : List ℤ → List ℕ → List (Option ℤ) → ℤ → List ℤ → List ℤ
added coordinates ends deltas scalar sums =
    map (λ k. slice_index_or sums k (pos 0) +ℤ moved_in (points coordinates deltas) 0 ends k scalar)
    (range_with_len 0 (length sums))

-- the same of a tuple that gives each point a delta, whose bytes these are, and the bytes after these deltas
abbrev pub added_to_each : List ℤ → List ℕ → List ℕ → ℤ → List ℤ → Option (List ℤ × List ℕ)
added_to_each coordinates ends bytes scalar sums =
    option_map (λ d. (added coordinates ends (deltas_by_point (length coordinates) None d.0) scalar sums, d.1))
    (deltas (length coordinates) bytes)

-- coordinates in parts of 2^30
abbrev pub in_units : List ℤ → List ℤ
in_units coordinates = map (λ x. pos (2 ^ 30) *ℤ x) coordinates
