-- A region counts between nothing and in full.
use Rattle.std.proofs.Common.{◌≡◌, ◌<◌, ◌≤◌, Bool, true, false, cond, List, [], ◌∷◌, ℤ, pos, ◌-ℤ◌, int_lt, int_le, unsigned_abs, refl, arith}
use Rattle.std.proofs.lemmas.Int.{ints}
use lib.Signed.{◌<ℤ◌, ◌≤ℤ◌}
use Rattle.subsetter_variation.specs.Nearest.{mul_div_nearest}
use Rattle.subsetter_variation.specs.Region.{times_axis_scalar, is_ignored, proportion, scalar_of, unit}
use Rattle.subsetter_variation.specs.VariationLaws.{IsBetweenNothingAndFull}
use Rattle.subsetter_variation.specs.declared.region.RegionAxis.{RegionAxis}
use Rattle.subsetter_variation.proofs.LocationsLaws.Ascent.{le_false, lt_true}
use Rattle.subsetter_variation.proofs.Quotients.{is_not_negative, part_within}

abbrev IsPart : ℤ → ℤ → Type 0
IsPart z whole = (pos 0 ≤ℤ z) × (z ≤ℤ whole)

all_of : (whole : ℤ) → pos 0 ≤ℤ whole → IsPart whole whole
all_of whole h = (h, omega (arith, ints))

none_of : (whole : ℤ) → pos 0 ≤ℤ whole → IsPart (pos 0) whole
none_of whole h = (omega (arith, ints), h)

no_more : (z whole : ℤ) → pos 0 ≤ℤ whole → unsigned_abs z ≤ unsigned_abs whole → z ≤ℤ whole
no_more z whole h le = grind (arith, ints)

part_of : (end peak at whole : ℤ) → pos 0 ≤ℤ whole → 0 < unsigned_abs (peak -ℤ end) → unsigned_abs (at -ℤ end) ≤ unsigned_abs (peak -ℤ end) → IsPart (proportion end peak at whole) whole
unfolding proportion
part_of end peak at whole h apart less =
    let x = pos (unsigned_abs (at -ℤ end)) in
    let b = unsigned_abs (peak -ℤ end) in
    (is_not_negative (mul_div_nearest x b whole) x whole b refl (omega (arith, ints)) h, no_more (mul_div_nearest x b whole) whole h (part_within x whole b apart less))

apart_below : (start at peak : ℤ) → start <ℤ at → at <ℤ peak → 0 < unsigned_abs (peak -ℤ start)
apart_below start at peak h k = grind (arith, ints)

less_below : (start at peak : ℤ) → start <ℤ at → at <ℤ peak → unsigned_abs (at -ℤ start) ≤ unsigned_abs (peak -ℤ start)
less_below start at peak h k = grind (arith, ints)

apart_above : (end at peak : ℤ) → at <ℤ end → peak <ℤ at → 0 < unsigned_abs (peak -ℤ end)
apart_above end at peak h k = grind (arith, ints)

less_above : (end at peak : ℤ) → at <ℤ end → peak <ℤ at → unsigned_abs (at -ℤ end) ≤ unsigned_abs (peak -ℤ end)
less_above end at peak h k = grind (arith, ints)

module _ (t : RegionAxis) (at whole : ℤ) (h : pos 0 ≤ℤ whole) where
  below : (b : Bool) → int_le at t.start ≡ b → int_lt at t.peak ≡ true → IsPart (cond b (pos 0) (proportion t.start t.peak at whole)) whole
  below true e lt = none_of whole h
  below false e lt =
      let over = le_false at t.start e in
      let under = lt_true at t.peak lt in
      part_of t.start t.peak at whole h (apart_below t.start at t.peak over under) (less_below t.start at t.peak over under)

  above : (b : Bool) → int_le t.end at ≡ b → int_lt t.peak at ≡ true → IsPart (cond b (pos 0) (proportion t.end t.peak at whole)) whole
  above true e lt = none_of whole h
  above false e lt =
      let under = le_false t.end at e in
      let over = lt_true t.peak at lt in
      part_of t.end t.peak at whole h (apart_above t.end at t.peak under over) (less_above t.end at t.peak under over)

  counted_within : IsPart (times_axis_scalar t at whole) whole
  unfolding times_axis_scalar
  counted_within = by (is_ignored t) (int_lt at t.peak) (int_lt t.peak at) refl refl
    where
      by : (x y z : Bool) → int_lt at t.peak ≡ y → int_lt t.peak at ≡ z
          → IsPart (cond x whole (cond y (cond (int_le at t.start) (pos 0) (proportion t.start t.peak at whole)) (cond z (cond (int_le t.end at) (pos 0) (proportion t.end t.peak at whole)) whole))) whole
      by true y z e f = all_of whole h
      by false true z e f = below (int_le at t.start) refl e
      by false false true e f = above (int_le t.end at) refl f
      by false false false e f = all_of whole h

scalar_within : (whole : ℤ) (region : List RegionAxis) (at : List ℤ) → pos 0 ≤ℤ whole → IsPart (scalar_of whole region at) whole
scalar_within whole [] at h = all_of whole h
scalar_within whole (t ∷ region) [] h = all_of whole h
scalar_within whole (t ∷ region) (c ∷ at) h =
    let first = counted_within t c whole h in
    let rest = scalar_within (times_axis_scalar t c whole) region at first.0 in
    (rest.0, within (scalar_of (times_axis_scalar t c whole) region at) (times_axis_scalar t c whole) whole rest.1 first.1)
  where
    within : (x y z : ℤ) → x ≤ℤ y → y ≤ℤ z → x ≤ℤ z
    within x y z h k = omega (arith, ints)

pub is_between_nothing_and_full : IsBetweenNothingAndFull
is_between_nothing_and_full region at = scalar_within unit region at (omega (arith, ints))
