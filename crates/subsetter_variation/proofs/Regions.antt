-- Regions that are read one axis after another.
use Rattle.std.proofs.Common.{◌≡◌, ℕ, zero, suc, ◌+◌, ◌-◌, ◌<◌, Bool, false, List, ◌∷◌, drop, length, get_or, ℤ, pos, refl, ap, ◌∙◌, arith}
use Rattle.std.proofs.lemmas.List.{drop_more}
use Rattle.subsetter_variation.specs.Region.{times_axis_scalar, scalar_of}
use Rattle.subsetter_variation.specs.Glyphs.Tuples.{region_axes, region_axis_of}
use Rattle.subsetter_variation.proofs.Masters.{scalar_of_none}

pub axes_count : (inner : Bool) (n : ℕ) (p s e : List ℕ) → length (region_axes inner n p s e) ≡ n
axes_count inner zero p s e = refl
axes_count inner (suc n) p s e = ap suc (axes_count inner n (drop 2 p) (drop 2 s) (drop 2 e))

-- the scalar of what is left goes on with the next axis
pub scalar_step : (whole : ℤ) (inner : Bool) (i : ℕ) (p s e : List ℕ) (at : List ℤ) → i < length at → scalar_of whole (region_axes inner (length at - i) p s e) (drop i at) ≡ scalar_of (times_axis_scalar (region_axis_of inner p s e) (get_or at i (pos 0)) whole) (region_axes inner (length at - (i + 1)) (drop 2 p) (drop 2 s) (drop 2 e)) (drop (i + 1) at)
scalar_step whole inner i p s e at less =
    let one : length at - i ≡ suc (length at - (i + 1)) = omega (arith, less) in
    rw (one, drop_more at i (pos 0) less) refl

pub scalar_end : (whole : ℤ) (inner : Bool) (i : ℕ) (p s e : List ℕ) (at : List ℤ) → length at ≡ i → scalar_of whole (region_axes inner (length at - i) p s e) (drop i at) ≡ whole
scalar_end whole inner i p s e at same =
    let none : length at - i ≡ 0 = omega (arith, same) in
    rw none refl

-- where the scalar is 0 it stays so
pub scalar_none : (whole : ℤ) (inner : Bool) (i : ℕ) (p s e : List ℕ) (at : List ℤ) → whole ≡ pos 0 → scalar_of whole (region_axes inner (length at - i) p s e) (drop i at) ≡ pos 0
scalar_none whole inner i p s e at none = ap (λ w. scalar_of w (region_axes inner (length at - i) p s e) (drop i at)) none ∙ scalar_of_none (region_axes inner (length at - i) p s e) (drop i at)

-- without ends of its own a region is that of its peaks
pub same_plain : (n : ℕ) (p s e : List ℕ) → region_axes false n p s e ≡ region_axes false n p p p
same_plain zero p s e = refl
same_plain (suc n) p s e = ap (λ r. region_axis_of false p p p ∷ r) (same_plain n (drop 2 p) (drop 2 s) (drop 2 e))
