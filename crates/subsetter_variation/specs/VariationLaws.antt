-- Laws of how far tuples count, and of what they move.
use Rattle.std.specs.Prelude.{◌≡◌, ◌+◌, ◌≤◌, ℕ, zero, suc, ℤ, pos, ◌*ℤ◌, ◌≤ℤ◌, Bool, false, List, [], ◌∷◌, length, map}
use Rattle.std.specs.Prelude.{slice_get, Option, Some, Ok, Err, All, ◌↔◌}
use Rattle.subsetter_base.specs.declared.error.Error.{Error}
use Rattle.subsetter_variation.specs.declared.glyphs.inference.Point.{Point}
use Rattle.subsetter_variation.specs.declared.region.RegionAxis.{RegionAxis}
use Rattle.subsetter_variation.specs.Glyphs.Inferred.{moved}
use Rattle.subsetter_variation.specs.Packing.Packed.{point_numbers}
use Rattle.subsetter_variation.specs.Region.{is_ignored, scalar, unit}
use Rattle.subsetter_variation.specs.Glyphs.Tuples.{Gvar, TupleHeader, TupleHeaders, next_header, shared_numbers}
use Rattle.subsetter_variation.specs.Glyphs.Tuples.{tuple_headers, variations_of}
use Rattle.subsetter_variation.specs.Glyphs.Movement.{Outline, Walk, next_walk, moved_points}
use Rattle.subsetter_variation.specs.Glyphs.Varied.{in_units}
use Rattle.subsetter_variation.specs.Glyphs.GvarFault.{HasVariationFault}

-- at the default a region counts nothing if one of its axes isn't ignored
abbrev pub IsNothingAtDefault : Type 0
IsNothingAtDefault =
    (region : List RegionAxis) (at : List ℤ) (k : ℕ) (t : RegionAxis) → length region ≡ length at
    → All (λ c. c ≡ pos 0) at → slice_get region k ≡ Some t → is_ignored t ≡ false
    → scalar region at ≡ pos 0

-- a region counts between nothing and in full
abbrev pub IsBetweenNothingAndFull : Type 0
IsBetweenNothingAndFull =
    (region : List RegionAxis) (at : List ℤ) → (pos 0 ≤ℤ scalar region at) × (scalar region at ≤ℤ unit)

-- a tuple whose scalar is 0 leaves all points where they are
abbrev pub IsPassedOver : Type 0
IsPassedOver =
    (t : Gvar) (o : Outline) (shared : Option (List ℕ)) (at : List ℤ)
    (w v : Walk) (h : TupleHeader) (rest : TupleHeaders)
    → next_header t w.headers ≡ Some (h, rest) → scalar h.region at ≡ pos 0 → next_walk t o shared at w ≡ Ok v
    → (v.xs ≡ w.xs) × (v.ys ≡ w.ys)

-- one axis of a region isn't ignored
abbrev pub HasAxis : List RegionAxis → Type 0
HasAxis region = (k : ℕ) × (t : RegionAxis) × (slice_get region k ≡ Some t) × (is_ignored t ≡ false)

-- each of the next n tuples has a region on `axes` axes, one of which isn't ignored
abbrev pub HaveAxes : Gvar → ℕ → ℕ → TupleHeaders → Type 0
HaveAxes t axes zero r = Unit {0}
HaveAxes t axes (suc n) r =
    (next : TupleHeader × TupleHeaders) → next_header t r ≡ Some next
    → (length next.0.region ≡ axes) × HasAxis next.0.region × HaveAxes t axes n next.1

-- the same of all tuples of a glyph
abbrev pub HasBoundTuples : Gvar → ℕ → Outline → ℕ → Type 0
HasBoundTuples t g o axes =
    (bytes : List ℕ) (all : Bool × TupleHeaders) (shared : Option (List ℕ) × TupleHeaders)
    → variations_of t g ≡ Some bytes → tuple_headers bytes ≡ Some all
    → shared_numbers (length o.xs) all.0 all.1 ≡ Some shared
    → HaveAxes t axes shared.1.left shared.1

-- at the default the points of a glyph stay where they are, if each of its tuples has an axis that isn't ignored
abbrev pub IsUnvariedAtDefault : Type 0
IsUnvariedAtDefault =
    (t : Gvar) (g : ℕ) (o : Outline) (at : List ℤ) (steps : ℕ) (a : List ℤ × List ℤ × ℕ) → All (λ c. c ≡ pos 0) at
    → HasBoundTuples t g o (length at) → moved_points t g o at steps ≡ Ok a
    → (a.0 ≡ in_units o.xs) × (a.1 ≡ in_units o.ys)

-- at its peak a tuple moves each point that it gives a delta by exactly that delta
abbrev pub IsExactAtPeak : Type 0
IsExactAtPeak =
    (region : List RegionAxis) (contour : List Point) (k : ℕ) (p : Point) (d : ℤ) → slice_get contour k ≡ Some p
    → p.delta ≡ Some d
    → moved contour k (scalar region (map (λ t. t.peak) region)) ≡ unit *ℤ d

-- in a contour of one point, as a phantom point is, it doesn't matter where the point lies
abbrev pub IsFreeOfPosition : Type 0
IsFreeOfPosition =
    (x y scalar : ℤ) (d : Option ℤ)
    → moved (record { at = x; delta = d } ∷ []) 0 scalar ≡ moved (record { at = y; delta = d } ∷ []) 0 scalar

-- each number is at least this one, and the next one greater
abbrev pub Ascends : ℕ → List ℕ → Type 0
Ascends least [] = Unit {0}
Ascends least (n ∷ numbers) = (least ≤ n) × Ascends (n + 1) numbers

-- the point numbers of a tuple ascend
abbrev pub AreAscending : Type 0
AreAscending =
    (limit : ℕ) (bytes rest numbers : List ℕ) → point_numbers limit bytes ≡ Some (Some numbers, rest)
    → Ascends 0 numbers

-- points don't move exactly where the variations of their glyph have a fault, with the fault's error
abbrev pub AreFaultsNamed : Type 0
AreFaultsNamed =
    (t : Gvar) (g : ℕ) (o : Outline) (at : List ℤ) (steps : ℕ) (e : Error)
    → (moved_points t g o at steps ≡ Err e) ↔ HasVariationFault t g o at steps e

-- points go to the same places at whatever number of steps
abbrev pub IsSameAtAnySteps : Type 0
IsSameAtAnySteps =
    (t : Gvar) (g : ℕ) (o : Outline) (at : List ℤ) (steps more : ℕ) (a b : List ℤ × List ℤ × ℕ)
    → moved_points t g o at steps ≡ Ok a → moved_points t g o at more ≡ Ok b
    → (a.0 ≡ b.0) × (a.1 ≡ b.1)
