-- A greater user coordinate lies no lower on its axis, through the segments too.
use Rattle.std.proofs.Common.{◌≡◌, ℕ, ◌*◌, ◌<◌, ◌≤◌, Bool, true, false, cond, ◌&&◌, List, [], ◌∷◌, ℤ, pos, negsuc, neg_ℤ, ◌+ℤ◌, ◌-ℤ◌, ◌*ℤ◌, int_lt, int_le, unsigned_abs, refl, arith, mul-le-mul_right}
use Rattle.std.specs.Ordering.{int_eq}
use Rattle.std.proofs.lemmas.Bool.Decides.{Decides-int_eq}
use Rattle.std.proofs.lemmas.Int.{ints}
use lib.Signed.{◌<ℤ◌, ◌≤ℤ◌}
use Rattle.subsetter_variation.specs.Locations.Axes.{above_default, below_default, default_normalized, toward, user_coordinate}
use Rattle.subsetter_variation.specs.Locations.Coordinates.{coordinate}
use Rattle.subsetter_variation.specs.Nearest.{mul_div_nearest}
use Rattle.subsetter_variation.specs.Locations.LocationLaws.{NeverDescendsBent}
use Rattle.subsetter_variation.specs.Locations.Segments.{by_segments, counting, f2dot14_to_fixed, is_on, is_segment_map, keeps, mapped, mapped_from, on_segment, interpolated}
use Rattle.subsetter_variation.proofs.LocationsLaws.Counting.{ascends, ascends_from, follows, counting_ascends}
use Rattle.subsetter_variation.specs.declared.locations.axes.Axis.{Axis}
use Rattle.subsetter_variation.specs.declared.locations.segments.AxisValueMap.{AxisValueMap}
use Rattle.subsetter_variation.proofs.LocationsLaws.Ascent.{apart_is, apart_too, closer_above, closer_below, le_false, le_true, lt_false, lt_true, nearest_up, never_descends, through, toward_within}
use Rattle.subsetter_variation.proofs.LocationsLaws.Placing.{at_least, both_of, either, fine_le}
use Rattle.subsetter_variation.proofs.Quotients.{is_not_negative, part_within}

-- ---- on a segment

times_up : (x y w : ℤ) → pos 0 ≤ℤ x → x ≤ℤ y → pos 0 ≤ℤ w → (x *ℤ w) ≤ℤ (y *ℤ w)
times_up (pos a) (pos b) (pos k) low h up = let more : a * k ≤ b * k = mul-le-mul_right k (omega (arith, ints)) in omega (arith, ints)
times_up (negsuc a) y w low h up = absurd (omega (arith, ints))
times_up (pos a) (negsuc b) w low h up = absurd (omega (arith, ints))
times_up (pos a) (pos b) (negsuc k) low h up = absurd (omega (arith, ints))

module _ (p q : AxisValueMap) (from : p.from <ℤ q.from) (to : p.to ≤ℤ q.to) where
  apart : 0 < unsigned_abs (f2dot14_to_fixed q.from -ℤ f2dot14_to_fixed p.from)
  apart = grind (arith, ints)

  rise : pos 0 ≤ℤ (f2dot14_to_fixed q.to -ℤ f2dot14_to_fixed p.to)
  rise = omega (arith, ints)

  segment_up : (m n : ℤ) → f2dot14_to_fixed p.from ≤ℤ m → m ≤ℤ n → on_segment p q m ≤ℤ on_segment p q n
  unfolding on_segment interpolated mul_div_nearest
  segment_up m n low h =
      let w = f2dot14_to_fixed q.to -ℤ f2dot14_to_fixed p.to in
      let x = m -ℤ f2dot14_to_fixed p.from in
      let y = n -ℤ f2dot14_to_fixed p.from in
      let up = nearest_up (x *ℤ w) (y *ℤ w) (unsigned_abs (f2dot14_to_fixed q.from -ℤ f2dot14_to_fixed p.from)) apart (times_up x y w (omega (arith, ints)) (omega (arith, ints)) rise) in
      omega (arith, ints)

  segment_low : (n : ℤ) → f2dot14_to_fixed p.from ≤ℤ n → f2dot14_to_fixed p.to ≤ℤ on_segment p q n
  unfolding on_segment interpolated
  segment_low n low =
      let w = f2dot14_to_fixed q.to -ℤ f2dot14_to_fixed p.to in
      let x = n -ℤ f2dot14_to_fixed p.from in
      let b = unsigned_abs (f2dot14_to_fixed q.from -ℤ f2dot14_to_fixed p.from) in
      let least = is_not_negative (mul_div_nearest x b w) x w b refl (omega (arith, ints)) rise in
      omega (arith, ints)

  not_wider : (n : ℤ) → f2dot14_to_fixed p.from ≤ℤ n → n <ℤ f2dot14_to_fixed q.from → unsigned_abs (n -ℤ f2dot14_to_fixed p.from) ≤ unsigned_abs (f2dot14_to_fixed q.from -ℤ f2dot14_to_fixed p.from)
  not_wider n low high = grind (arith, ints)

  no_more : (z w v : ℤ) → unsigned_abs z ≤ unsigned_abs (w -ℤ v) → v ≤ℤ w → (v +ℤ z) ≤ℤ w
  no_more z w v h le = grind (arith, ints)

  segment_high : (n : ℤ) → f2dot14_to_fixed p.from ≤ℤ n → n <ℤ f2dot14_to_fixed q.from → on_segment p q n ≤ℤ f2dot14_to_fixed q.to
  unfolding on_segment interpolated
  segment_high n low high =
      let w = f2dot14_to_fixed q.to -ℤ f2dot14_to_fixed p.to in
      let x = n -ℤ f2dot14_to_fixed p.from in
      let b = unsigned_abs (f2dot14_to_fixed q.from -ℤ f2dot14_to_fixed p.from) in
      no_more (mul_div_nearest x b w) (f2dot14_to_fixed q.to) (f2dot14_to_fixed p.to) (part_within x w b apart (not_wider n low high)) (fine_le p.to q.to to)

-- ---- by segments

-- the number lies after a segment that it isn't on
following : (a b : Bool) → (a && b) ≡ false → a ≡ true → b ≡ false
following true b h k = h
following false b h k = absurd cc

past_first : (p q : AxisValueMap) (n : ℤ) → is_on p q n ≡ false → f2dot14_to_fixed p.from ≤ℤ n → f2dot14_to_fixed q.from ≤ℤ n
past_first p q n off low = lt_false n (f2dot14_to_fixed q.from) (following (int_le (f2dot14_to_fixed p.from) n) (int_lt n (f2dot14_to_fixed q.from)) off (grind (arith, ints)))

before_second : (p q : AxisValueMap) (n : ℤ) → is_on p q n ≡ true → n <ℤ f2dot14_to_fixed q.from
before_second p q n on = lt_true n (f2dot14_to_fixed q.from) (both_of (int_le (f2dot14_to_fixed p.from) n) (int_lt n (f2dot14_to_fixed q.from)) on).1

-- a greatest number that is kept, and that no number passes, is kept by an end further on
kept_past : (p q : AxisValueMap) (ends : List AxisValueMap) (n : ℤ) → keeps (pos 16384) (p ∷ q ∷ ends) ≡ true → p.from <ℤ q.from → f2dot14_to_fixed q.from ≤ℤ n → n ≤ℤ pos 65536 → keeps (pos 16384) (q ∷ ends) ≡ true
kept_past p q ends n h from low high = either (int_eq p.from (pos 16384) && int_eq p.to (pos 16384)) (keeps (pos 16384) (q ∷ ends)) h (λ k. let same : p.from ≡ pos 16384 = (Decides-int_eq p.from (pos 16384)).0 (both_of (int_eq p.from (pos 16384)) (int_eq p.to (pos 16384)) k).0 in absurd (omega (arith, ints))) (λ k. k)

record Follows (p q : AxisValueMap) (ends : List AxisValueMap) : Type 0 where
  from : p.from <ℤ q.from
  to : p.to ≤ℤ q.to
  up : ascends_from q ends ≡ true

follow : (p q : AxisValueMap) (ends : List AxisValueMap) → ascends_from p (q ∷ ends) ≡ true → Follows p q ends
follow p q ends up =
    let a = both_of (follows p q) (ascends_from q ends) up in
    let b = both_of (int_lt p.from q.from) (int_le p.to q.to) a.0 in
    record { from = lt_true p.from q.from b.0; to = le_true p.to q.to b.1; up = a.1 }

low_from : (p : AxisValueMap) (ends : List AxisValueMap) (n : ℤ) → ascends_from p ends ≡ true → keeps (pos 16384) (p ∷ ends) ≡ true → f2dot14_to_fixed p.from ≤ℤ n → n ≤ℤ pos 65536 → f2dot14_to_fixed p.to ≤ℤ mapped_from p ends n
low_from p [] n up h low high =
    either (int_eq p.from (pos 16384) && int_eq p.to (pos 16384)) false h
    (λ k.
    let a = both_of (int_eq p.from (pos 16384)) (int_eq p.to (pos 16384)) k in
    let from : p.from ≡ pos 16384 = (Decides-int_eq p.from (pos 16384)).0 a.0 in
    let to : p.to ≡ pos 16384 = (Decides-int_eq p.to (pos 16384)).0 a.1 in
    omega (arith, ints))
    (λ k. absurd cc)
low_from p (q ∷ ends) n up h low high = by (λ u k l. low_from q ends n u k l high) (is_on p q n) refl
  where
    by : (ascends_from q ends ≡ true → keeps (pos 16384) (q ∷ ends) ≡ true → f2dot14_to_fixed q.from ≤ℤ n → f2dot14_to_fixed q.to ≤ℤ mapped_from q ends n) → (b : Bool) → is_on p q n ≡ b → f2dot14_to_fixed p.to ≤ℤ cond b (on_segment p q n) (mapped_from q ends n)
    by later true on = let f = follow p q ends up in segment_low p q f.from f.to n low
    by later false off =
        let f = follow p q ends up in
        let l = past_first p q n off low in
        through (f2dot14_to_fixed p.to) (f2dot14_to_fixed q.to) (mapped_from q ends n) (fine_le p.to q.to f.to) (later f.up (kept_past p q ends n h f.from l high) l)

up_from : (p : AxisValueMap) (ends : List AxisValueMap) (m n : ℤ) → ascends_from p ends ≡ true → keeps (pos 16384) (p ∷ ends) ≡ true → f2dot14_to_fixed p.from ≤ℤ m → m ≤ℤ n → n ≤ℤ pos 65536 → mapped_from p ends m ≤ℤ mapped_from p ends n
up_from p [] m n up h low le high = le
up_from p (q ∷ ends) m n up h low le high = by (λ u k l. up_from q ends m n u k l le high) (is_on p q m) (is_on p q n) refl refl
  where
    f : Follows p q ends
    f = follow p q ends up

    by : (ascends_from q ends ≡ true → keeps (pos 16384) (q ∷ ends) ≡ true → f2dot14_to_fixed q.from ≤ℤ m → mapped_from q ends m ≤ℤ mapped_from q ends n) → (a b : Bool) → is_on p q m ≡ a → is_on p q n ≡ b
        → cond a (on_segment p q m) (mapped_from q ends m) ≤ℤ cond b (on_segment p q n) (mapped_from q ends n)
    by later true true x y = segment_up p q f.from f.to m n low le
    by later true false x y =
        let l = past_first p q n y (through (f2dot14_to_fixed p.from) m n low le) in
        through (on_segment p q m) (f2dot14_to_fixed q.to) (mapped_from q ends n) (segment_high p q f.from f.to m low (before_second p q m x)) (low_from q ends n f.up (kept_past p q ends n h f.from l high) l high)
    by later false true x y = let l = past_first p q m x low in let g = before_second p q n y in absurd (omega (arith, ints))
    by later false false x y =
        let l = past_first p q m x low in
        later f.up (kept_past p q ends n h f.from (through (f2dot14_to_fixed q.from) m n l le) high) l

segments_up : (ends : List AxisValueMap) (m n : ℤ) → ascends ends ≡ true → is_segment_map ends ≡ true → neg_ℤ (pos 65536) ≤ℤ m → m ≤ℤ n → n ≤ℤ pos 65536 → by_segments ends m ≤ℤ by_segments ends n
segments_up [] m n up h low le high = le
segments_up (p ∷ ends) m n up h low le high =
    let all = p ∷ ends in
    let a = both_of (keeps (neg_ℤ (pos 16384)) all) (keeps (pos 0) all && keeps (pos 16384) all) h in
    let b = both_of (keeps (pos 0) all) (keeps (pos 16384) all) a.1 in
    let first : p.from ≤ℤ neg_ℤ (pos 16384) = at_least (neg_ℤ (pos 16384)) p ends up a.0 in
    up_from p ends m n up b.1 (omega (arith, ints)) le high

mapped_up : (ends : List AxisValueMap) (m n : ℤ) → neg_ℤ (pos 65536) ≤ℤ m → m ≤ℤ n → n ≤ℤ pos 65536 → mapped ends m ≤ℤ mapped ends n
mapped_up ends m n low le high = by (is_segment_map (counting ends)) refl
  where
    by : (b : Bool) → is_segment_map (counting ends) ≡ b → cond b (by_segments (counting ends) m) m ≤ℤ cond b (by_segments (counting ends) n) n
    by true h = segments_up (counting ends) m n (counting_ascends ends) h low le high
    by false h = le

-- ---- axes

module _ (a : Axis) where
  below_within : (c : ℤ) (x y : Bool) → int_le a.default a.minimum ≡ x → int_le c a.minimum ≡ y → c <ℤ a.default → unsigned_abs (cond x (pos 0) (cond y (neg_ℤ (pos 65536)) (toward a.minimum a.default c))) ≤ 65536
  below_within c true y e f lt = omega arith
  below_within c false true e f lt = omega arith
  below_within c false false e f lt =
      let under = le_false a.default a.minimum e in
      let over = le_false c a.minimum f in
      toward_within a.minimum a.default c (apart_is a.minimum a.default under) (closer_below a.minimum a.default c (omega (arith, ints)) (omega (arith, ints)))

  above_within : (c : ℤ) (x y : Bool) → int_le a.maximum a.default ≡ x → int_le a.maximum c ≡ y → a.default <ℤ c → unsigned_abs (cond x (pos 0) (cond y (pos 65536) (toward a.maximum a.default c))) ≤ 65536
  above_within c true y e f lt = omega arith
  above_within c false true e f lt = omega arith
  above_within c false false e f lt =
      let under = le_false a.maximum a.default e in
      let over = le_false a.maximum c f in
      toward_within a.maximum a.default c (apart_too a.maximum a.default under) (closer_above a.maximum a.default c (omega (arith, ints)) (omega (arith, ints)))

  normalized_within : (c : ℤ) → unsigned_abs (default_normalized a c) ≤ 65536
  unfolding default_normalized
  normalized_within c = by (int_lt c a.default) (int_lt a.default c) refl refl
    where
      by : (p q : Bool) → int_lt c a.default ≡ p → int_lt a.default c ≡ q → unsigned_abs (cond p (below_default a c) (cond q (above_default a c) (pos 0))) ≤ 65536
      by true q e f = below_within c (int_le a.default a.minimum) (int_le c a.minimum) refl refl (lt_true c a.default e)
      by false true e f = above_within c (int_le a.maximum a.default) (int_le a.maximum c) refl refl (lt_true a.default c f)
      by false false e f = omega arith

no_lower : (z : ℤ) (n : ℕ) → unsigned_abs z ≤ n → neg_ℤ (pos n) ≤ℤ z
no_lower z n h = grind (arith, ints)

no_higher : (z : ℤ) (n : ℕ) → unsigned_abs z ≤ n → z ≤ℤ pos n
no_higher z n h = grind (arith, ints)

pub never_descends_bent : NeverDescendsBent
unfolding coordinate
never_descends_bent a ends settings more h =
    let c = default_normalized a (user_coordinate a settings) in
    let d = default_normalized a (user_coordinate a more) in
    nearest_up (mapped ends c) (mapped ends d) 4 (omega arith)
    (mapped_up ends c d (no_lower c 65536 (normalized_within a (user_coordinate a settings))) (never_descends a (user_coordinate a settings) (user_coordinate a more) h) (no_higher d 65536 (normalized_within a (user_coordinate a more))))
