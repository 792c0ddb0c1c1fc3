-- Where the default and the ends of an axis lie.
use Rattle.std.proofs.Common.{◌≡◌, Bool, true, false, cond, ◌&&◌, ◌||◌, List, [], ◌∷◌, ℤ, pos, neg_ℤ, ◌-ℤ◌, ◌*ℤ◌, int_lt, int_le, unsigned_abs, refl, sym, ap, ◌∙◌, arith}
use Rattle.std.specs.Ordering.{int_eq}
use Rattle.std.proofs.lemmas.Bool.Decides.{Decides-int_eq}
use Rattle.std.proofs.lemmas.Int.{ints}
use lib.Signed.{◌<ℤ◌, ◌≤ℤ◌}
use Rattle.std.proofs.Math.IntN.{zero-*ℤ}
use Rattle.subsetter_variation.specs.Locations.Axes.{default_normalized, user_coordinate}
use Rattle.subsetter_variation.specs.Locations.Coordinates.{coordinate}
use Rattle.subsetter_variation.specs.Nearest.{nearest, mul_div_nearest}
use Rattle.subsetter_variation.specs.Locations.Segments.{by_segments, counting, f2dot14_to_fixed, is_on, is_segment_map, keeps, mapped, mapped_from, on_segment, interpolated}
use Rattle.subsetter_variation.proofs.LocationsLaws.Counting.{ascends, ascends_from, follows, counting_ascends}
use Rattle.subsetter_variation.specs.Locations.LocationLaws.{IsDefaultAtZero, IsGreatestAtOne, IsMappedToItself, IsLeastAtMinusOne}
use Rattle.subsetter_variation.specs.declared.locations.axes.Axis.{Axis}
use Rattle.subsetter_variation.specs.declared.locations.segments.AxisValueMap.{AxisValueMap}
use Rattle.subsetter_variation.proofs.GlyphsLaws.Turning.{nearest_zero}

-- ---- tests

pub both_of : (a b : Bool) → (a && b) ≡ true → (a ≡ true) × (b ≡ true)
both_of true b h = (refl, h)
both_of false b h = absurd cc

lt_true : (x y : ℤ) → int_lt x y ≡ true → x <ℤ y
lt_true x y h = grind (arith, ints)

le_true : (x y : ℤ) → int_le x y ≡ true → x ≤ℤ y
le_true x y h = grind (arith, ints)

lt_is : (x y : ℤ) → x <ℤ y → int_lt x y ≡ true
lt_is x y h = grind (arith, ints)

lt_not : (x y : ℤ) → y ≤ℤ x → int_lt x y ≡ false
lt_not x y h = grind (arith, ints)

le_is : (x y : ℤ) → x ≤ℤ y → int_le x y ≡ true
le_is x y h = grind (arith, ints)

le_not : (x y : ℤ) → y <ℤ x → int_le x y ≡ false
le_not x y h = grind (arith, ints)

pub fine_lt : (x y : ℤ) → x <ℤ y → f2dot14_to_fixed x <ℤ f2dot14_to_fixed y
fine_lt x y h = omega (arith, ints)

pub fine_le : (x y : ℤ) → x ≤ℤ y → f2dot14_to_fixed x ≤ℤ f2dot14_to_fixed y
fine_le x y h = omega (arith, ints)

-- ---- segments

-- a number that is kept lies at an end or above it
at_itself : (z : ℤ) (p : AxisValueMap) → (int_eq p.from z && int_eq p.to z) ≡ true → p.from ≤ℤ z
at_itself z p e = let same : p.from ≡ z = (Decides-int_eq p.from z).0 (both_of (int_eq p.from z) (int_eq p.to z) e).0 in omega (arith, ints)

pub either : {P : Type 0} (a b : Bool) → (a || b) ≡ true → (a ≡ true → P) → (b ≡ true → P) → P
either true b h f g = f refl
either false b h f g = g h

pub at_least : (z : ℤ) (p : AxisValueMap) (ends : List AxisValueMap) → ascends_from p ends ≡ true → keeps z (p ∷ ends) ≡ true → p.from ≤ℤ z
at_least z p [] up h = either (int_eq p.from z && int_eq p.to z) false h (at_itself z p) (λ k. absurd cc)
at_least z p (q ∷ rest) up h =
    let a = both_of (follows p q) (ascends_from q rest) up in
    let b = both_of (int_lt p.from q.from) (int_le p.to q.to) a.0 in
    let c : p.from <ℤ q.from = lt_true p.from q.from b.0 in
    either (int_eq p.from z && int_eq p.to z) (keeps z (q ∷ rest)) h (at_itself z p) (λ k. let d : q.from ≤ℤ z = at_least z q rest a.1 k in omega (arith, ints))

-- at the first end of a segment the new number is that end's
on_first : (p q : AxisValueMap) (n : ℤ) → f2dot14_to_fixed p.from ≡ n → on_segment p q n ≡ f2dot14_to_fixed p.to
unfolding on_segment interpolated mul_div_nearest
on_first p q n h =
    let none : n -ℤ f2dot14_to_fixed p.from ≡ pos 0 = omega (arith, ints) in
    let whole = f2dot14_to_fixed q.to -ℤ f2dot14_to_fixed p.to in
    let rest : nearest ((n -ℤ f2dot14_to_fixed p.from) *ℤ whole) (unsigned_abs (f2dot14_to_fixed q.from -ℤ f2dot14_to_fixed p.from)) ≡ pos 0 = nearest_zero ((n -ℤ f2dot14_to_fixed p.from) *ℤ whole) (unsigned_abs (f2dot14_to_fixed q.from -ℤ f2dot14_to_fixed p.from)) (ap (λ z. z *ℤ whole) none ∙ zero-*ℤ whole) in
    omega (arith, ints, rest)

on_true : (p q : AxisValueMap) (ends : List AxisValueMap) (z : ℤ) → is_on p q (f2dot14_to_fixed z) ≡ true → p.from ≡ z → p.to ≡ z → mapped_from p (q ∷ ends) (f2dot14_to_fixed z) ≡ f2dot14_to_fixed z
on_true p q ends z on e f = ap (λ b. cond b (on_segment p q (f2dot14_to_fixed z)) (mapped_from q ends (f2dot14_to_fixed z))) on ∙ on_first p q (f2dot14_to_fixed z) (ap f2dot14_to_fixed e) ∙ ap f2dot14_to_fixed f

on_false : (p q : AxisValueMap) (ends : List AxisValueMap) (z : ℤ) → is_on p q (f2dot14_to_fixed z) ≡ false → mapped_from q ends (f2dot14_to_fixed z) ≡ f2dot14_to_fixed z → mapped_from p (q ∷ ends) (f2dot14_to_fixed z) ≡ f2dot14_to_fixed z
on_false p q ends z off h = ap (λ b. cond b (on_segment p q (f2dot14_to_fixed z)) (mapped_from q ends (f2dot14_to_fixed z))) off ∙ h

is_on_first : (p q : AxisValueMap) (z : ℤ) → p.from ≡ z → p.from <ℤ q.from → is_on p q (f2dot14_to_fixed z) ≡ true
is_on_first p q z e lt =
    let low : f2dot14_to_fixed p.from ≤ℤ f2dot14_to_fixed z = fine_le p.from z (omega (arith, ints)) in
    let high : f2dot14_to_fixed z <ℤ f2dot14_to_fixed q.from = fine_lt z q.from (omega (arith, ints)) in
    rw (le_is (f2dot14_to_fixed p.from) (f2dot14_to_fixed z) low, lt_is (f2dot14_to_fixed z) (f2dot14_to_fixed q.from) high) refl

not_on : (a b : Bool) → b ≡ false → (a && b) ≡ false
not_on true b h = h
not_on false b h = refl

kept_from : (z : ℤ) (p : AxisValueMap) (ends : List AxisValueMap) → ascends_from p ends ≡ true → keeps z (p ∷ ends) ≡ true → mapped_from p ends (f2dot14_to_fixed z) ≡ f2dot14_to_fixed z
kept_from z p [] up h = refl
kept_from z p (q ∷ rest) up h = by (λ e k. kept_from z q rest e k) (int_eq p.from z && int_eq p.to z) refl h
  where
    by : (ascends_from q rest ≡ true → keeps z (q ∷ rest) ≡ true → mapped_from q rest (f2dot14_to_fixed z) ≡ f2dot14_to_fixed z) → (t : Bool) → (int_eq p.from z && int_eq p.to z) ≡ t → (t || keeps z (q ∷ rest)) ≡ true → mapped_from p (q ∷ rest) (f2dot14_to_fixed z) ≡ f2dot14_to_fixed z
    by later true e k =
        let a = both_of (follows p q) (ascends_from q rest) up in
        let b = both_of (int_lt p.from q.from) (int_le p.to q.to) a.0 in
        let c = both_of (int_eq p.from z) (int_eq p.to z) e in
        let from = (Decides-int_eq p.from z).0 c.0 in
        on_true p q rest z (is_on_first p q z from (lt_true p.from q.from b.0)) from ((Decides-int_eq p.to z).0 c.1)
    by later false e k =
        let a = both_of (follows p q) (ascends_from q rest) up in
        let low = at_least z q rest a.1 k in
        on_false p q rest z (not_on (int_le (f2dot14_to_fixed p.from) (f2dot14_to_fixed z)) (int_lt (f2dot14_to_fixed z) (f2dot14_to_fixed q.from)) (lt_not (f2dot14_to_fixed z) (f2dot14_to_fixed q.from) (fine_le q.from z low))) (later a.1 k)

kept_by : (z : ℤ) (ends : List AxisValueMap) → ascends ends ≡ true → keeps z ends ≡ true → by_segments ends (f2dot14_to_fixed z) ≡ f2dot14_to_fixed z
kept_by z [] up h = refl
kept_by z (p ∷ ends) up h = kept_from z p ends up h

pub is_kept : IsMappedToItself
is_kept ends z h = by (is_segment_map (counting ends))
  where
    by : (b : Bool) → cond b (by_segments (counting ends) (f2dot14_to_fixed z)) (f2dot14_to_fixed z) ≡ f2dot14_to_fixed z
    by false = refl
    by true = kept_by z (counting ends) (counting_ascends ends) h

-- each of -1, 0 and 1 stays, whatever the segments
stays : (ends : List AxisValueMap) (z : ℤ) → (is_segment_map (counting ends) ≡ true → keeps z (counting ends) ≡ true) → mapped ends (f2dot14_to_fixed z) ≡ f2dot14_to_fixed z
stays ends z h = by (is_segment_map (counting ends)) refl
  where
    by : (b : Bool) → is_segment_map (counting ends) ≡ b → cond b (by_segments (counting ends) (f2dot14_to_fixed z)) (f2dot14_to_fixed z) ≡ f2dot14_to_fixed z
    by false e = refl
    by true e = kept_by z (counting ends) (counting_ascends ends) (h e)

parts_of : (ends : List AxisValueMap) → is_segment_map ends ≡ true → (keeps (neg_ℤ (pos 16384)) ends ≡ true) × (keeps (pos 0) ends ≡ true) × (keeps (pos 16384) ends ≡ true)
parts_of ends e =
    let a = both_of (keeps (neg_ℤ (pos 16384)) ends) (keeps (pos 0) ends && keeps (pos 16384) ends) e in
    let b = both_of (keeps (pos 0) ends) (keeps (pos 16384) ends) a.1 in
    (a.0, b.0, b.1)

-- ---- axes

at_default : (a : Axis) (c : ℤ) → c ≡ a.default → default_normalized a c ≡ pos 0
unfolding default_normalized
at_default a c h = rw (lt_not c a.default (omega (arith, ints)), lt_not a.default c (omega (arith, ints))) refl

at_minimum : (a : Axis) (c : ℤ) → a.minimum <ℤ a.default → c ≡ a.minimum → default_normalized a c ≡ neg_ℤ (pos 65536)
unfolding default_normalized
at_minimum a c lt h = rw (lt_is c a.default (omega (arith, ints)), le_not a.default a.minimum lt, le_is c a.minimum (omega (arith, ints))) refl

at_maximum : (a : Axis) (c : ℤ) → a.default <ℤ a.maximum → c ≡ a.maximum → default_normalized a c ≡ pos 65536
unfolding default_normalized
at_maximum a c lt h = rw (lt_not c a.default (omega (arith, ints)), lt_is a.default c (omega (arith, ints)), le_not a.maximum a.default lt, le_is a.maximum c (omega (arith, ints))) refl

pub is_default_at_zero : IsDefaultAtZero
unfolding coordinate nearest
is_default_at_zero a ends settings h = ap (λ n. nearest (mapped ends n) 4) (at_default a (user_coordinate a settings) h) ∙ ap (λ n. nearest n 4) (stays ends (pos 0) (λ e. (parts_of (counting ends) e).1))

pub is_least_at_minus_one : IsLeastAtMinusOne
unfolding coordinate nearest
is_least_at_minus_one a ends settings lt h = ap (λ n. nearest (mapped ends n) 4) (at_minimum a (user_coordinate a settings) (lt_true a.minimum a.default lt) h) ∙ ap (λ n. nearest n 4) (stays ends (neg_ℤ (pos 16384)) (λ e. (parts_of (counting ends) e).0))

pub is_greatest_at_one : IsGreatestAtOne
unfolding coordinate nearest
is_greatest_at_one a ends settings lt h = ap (λ n. nearest (mapped ends n) 4) (at_maximum a (user_coordinate a settings) (lt_true a.default a.maximum lt) h) ∙ ap (λ n. nearest n 4) (stays ends (pos 16384) (λ e. (parts_of (counting ends) e).2))
