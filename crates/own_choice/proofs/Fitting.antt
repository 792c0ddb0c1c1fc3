-- What can be made of the parts that the choice lets through.
use Rattle.std.proofs.Common.{◌≡◌, ℕ, zero, suc, ◌+◌, ◌*◌, ◌<◌, ◌≤◌, Bool, true, false, cond, ltb, ◌&&◌, List, [], ◌∷◌, length, Option, Some, None, Err, refl, arith, ltb-true, ℤ, pos, negsuc, ◌+ℤ◌}
use Rattle.std.specs.Prelude.{max, min, nat_lt, nat_le, unsigned_abs}
use Rattle.std.specs.Option.{option_map_or}
use Rattle.std.proofs.lemmas.Bool.{lt-ltb, le-leb, leb-true}
use Rattle.std.proofs.lemmas.Int.{ints}
use Rattle.std.proofs.Math.Nat.{div-le_self, le-div_iff_mul-le, max-eq_left, le-min, min-le_left, min-le_right, le-max_left, mul-le-mul_left}
use Rattle.subsetter_base.specs.Bytes.{signed_at}
use Rattle.subsetter_base.specs.declared.error.Error.TheVariants.{OverflowError}
use Rattle.subsetter_points.specs.Simple.{has_16_bits}
use Rattle.subsetter_points.specs.declared.bounds.Bounds.{Bounds}
use Rattle.subsetter.specs.Glyf.Read.{outline_in}
use Rattle.own_glyphs.specs.Composite.{header_box, part_box, tables}
use Rattle.own_glyphs.specs.Profile.{field_at, limits_of}
use Rattle.own_glyphs.specs.Source.{Source}
use Rattle.own_glyphs.specs.declared.glyph.Part.{Part}
use Rattle.pdf_figures.specs.Figures.{is_place}
use Rattle.pdf_figures.proofs.Cuts.{both}
use Rattle.own_choice.specs.Laws.{HasBox, HasLimits, IsMost}
use Rattle.own_choice.specs.Parts.{has_small_outline, is_small, is_small_box, is_within, most_in, room_in, times_in}

-- ---- numbers

pub times_fit : (n parts : ℕ) → parts ≤ times_in n → parts * n < 65536
times_fit n parts h =
    let above : 0 < max n 1 = omega arith in
    let most : parts * max n 1 ≤ 65535 = (le-div_iff_mul-le above).0 h in
    let less : parts * n ≤ parts * max n 1 = mul-le-mul_left parts (le-max_left n 1) in
    omega arith

times_over : (n parts : ℕ) → parts < 65536 → parts * n < 65536 → parts ≤ times_in n
times_over zero parts few h = omega arith
times_over (suc n) parts few h = rw (max-eq_left (one_at_least n)) ((le-div_iff_mul-le (above n)).1 (omega arith))
  where
    one_at_least : (n : ℕ) → 1 ≤ suc n
    one_at_least n = omega arith

    above : (n : ℕ) → 0 < suc n
    above n = omega arith

-- ---- limits

pub limits_are : (maxp : List ℕ) (parts : ℕ) → parts < 65536 → parts * max (field_at maxp 6) (field_at maxp 10) < 65536 → parts * max (field_at maxp 8) (field_at maxp 12) < 65536 → field_at maxp 30 + 1 < 65536 → HasLimits parts maxp
unfolding limits_of
limits_are maxp parts few points contours depth = record {
  limits = record { points = parts * max (field_at maxp 6) (field_at maxp 10); contours = parts * max (field_at maxp 8) (field_at maxp 12); elements = max parts (field_at maxp 28); depth = field_at maxp 30 + 1 };
  are = rw (lt-ltb parts 65536 few, lt-ltb (parts * max (field_at maxp 6) (field_at maxp 10)) 65536 points, lt-ltb (parts * max (field_at maxp 8) (field_at maxp 12)) 65536 contours, lt-ltb (field_at maxp 30 + 1) 65536 depth) refl;
}

within_by : (maxp : List ℕ) (parts : ℕ) (b : Bool) → (nat_le 32 (length maxp) && nat_lt (field_at maxp 30) 65535) ≡ b → parts ≤ cond b (room_in maxp) 0 → 0 < parts → HasLimits parts maxp
within_by maxp parts false e h above = absurd (omega arith)
within_by maxp parts true e h above =
    let points : ℕ = max (field_at maxp 6) (field_at maxp 10) in
    let contours : ℕ = max (field_at maxp 8) (field_at maxp 12) in
    let deep : field_at maxp 30 < 65535 = ltb-true (field_at maxp 30) 65535 (both (nat_le 32 (length maxp)) _ e).1 in
    let first : parts ≤ times_in points = omega (arith, min-le_left (times_in points) (times_in contours)) in
    let second : parts ≤ times_in contours = omega (arith, min-le_right (times_in points) (times_in contours)) in
    limits_are maxp parts (omega (arith, div-le_self 65535 (max points 1))) (times_fit points parts first) (times_fit contours parts second) (omega arith)

beyond_by : (maxp : List ℕ) (parts : ℕ) (a b c d : Bool) → ltb parts 65536 ≡ a → ltb (parts * max (field_at maxp 6) (field_at maxp 10)) 65536 ≡ b → ltb (parts * max (field_at maxp 8) (field_at maxp 12)) 65536 ≡ c → ltb (field_at maxp 30 + 1) 65536 ≡ d
    → most_in maxp < parts → 32 ≤ length maxp → limits_of parts maxp ≡ Err OverflowError
unfolding limits_of
beyond_by maxp parts false b c d e f g h over long = rw e refl
beyond_by maxp parts true false c d e f g h over long = rw (e, f) refl
beyond_by maxp parts true true false d e f g h over long = rw (e, f, g) refl
beyond_by maxp parts true true true false e f g h over long = rw (e, f, g, h) refl
beyond_by maxp parts true true true true e f g h over long =
    let points : ℕ = max (field_at maxp 6) (field_at maxp 10) in
    let contours : ℕ = max (field_at maxp 8) (field_at maxp 12) in
    let few : parts < 65536 = ltb-true parts 65536 e in
    let first : parts ≤ times_in points = times_over points parts few (ltb-true (parts * points) 65536 f) in
    let second : parts ≤ times_in contours = times_over contours parts few (ltb-true (parts * contours) 65536 g) in
    let room : parts ≤ min (times_in points) (times_in contours) = le-min first second in
    let deep : field_at maxp 30 + 1 < 65536 = ltb-true (field_at maxp 30 + 1) 65536 h in
    let is : most_in maxp ≡ room_in maxp = rw (le-leb 32 (length maxp) long, lt-ltb (field_at maxp 30) 65535 (omega arith)) refl in
    absurd (omega (arith, is))

pub parts_fit : (maxp : List ℕ) (parts : ℕ) → IsMost maxp parts
parts_fit maxp parts = record {
  within = λ h above. within_by maxp parts (nat_le 32 (length maxp) && nat_lt (field_at maxp 30) 65535) refl h above;
  beyond = λ over long. beyond_by maxp parts (ltb parts 65536) (ltb (parts * max (field_at maxp 6) (field_at maxp 10)) 65536) (ltb (parts * max (field_at maxp 8) (field_at maxp 12)) 65536) (ltb (field_at maxp 30 + 1) 65536) refl refl refl refl over long;
}

-- ---- boxes

side_by : (w z x : ℤ) → w ≡ z +ℤ x → unsigned_abs z ≤ 16384 → is_place x ≡ true → has_16_bits w ≡ true
side_by (pos n) (pos z) (pos x) e h k = let l : x < 16384 = ltb-true x 16384 k in lt-ltb n 32768 (omega (arith, ints))
side_by (pos n) (pos z) (negsuc x) e h k = let l : x < 16384 = ltb-true x 16384 k in lt-ltb n 32768 (omega (arith, ints))
side_by (pos n) (negsuc z) (pos x) e h k = let l : x < 16384 = ltb-true x 16384 k in lt-ltb n 32768 (omega (arith, ints))
side_by (pos n) (negsuc z) (negsuc x) e h k = let l : x < 16384 = ltb-true x 16384 k in lt-ltb n 32768 (omega (arith, ints))
side_by (negsuc n) (pos z) (pos x) e h k = let l : x < 16384 = ltb-true x 16384 k in lt-ltb n 32768 (omega (arith, ints))
side_by (negsuc n) (pos z) (negsuc x) e h k = let l : x < 16384 = ltb-true x 16384 k in lt-ltb n 32768 (omega (arith, ints))
side_by (negsuc n) (negsuc z) (pos x) e h k = let l : x < 16384 = ltb-true x 16384 k in lt-ltb n 32768 (omega (arith, ints))
side_by (negsuc n) (negsuc z) (negsuc x) e h k = let l : x < 16384 = ltb-true x 16384 k in lt-ltb n 32768 (omega (arith, ints))

side : (z x : ℤ) → is_within z ≡ true → is_place x ≡ true → has_16_bits (z +ℤ x) ≡ true
side z x h k = side_by (z +ℤ x) z x refl (leb-true (unsigned_abs z) 16384 h) k

-- the sides of a small box are within the reach
pub record AreWithin (b : Bounds) : Type 0 where
  pub x_min : is_within b.x_min ≡ true
  pub y_min : is_within b.y_min ≡ true
  pub x_max : is_within b.x_max ≡ true
  pub y_max : is_within b.y_max ≡ true

pub are_within : (b : Bounds) → is_small_box b ≡ true → AreWithin b
are_within b h =
    let (least, most) = both (is_within b.x_min && is_within b.y_min) (is_within b.x_max && is_within b.y_max) h in
    let (x_min, y_min) = both (is_within b.x_min) (is_within b.y_min) least in
    let (x_max, y_max) = both (is_within b.x_max) (is_within b.y_max) most in
    record { x_min = x_min; y_min = y_min; x_max = x_max; y_max = y_max }

box_by : (s : Source) (p : Part) (o : Option (List ℕ)) → outline_in (tables s) p.glyph ≡ o → p.glyph < s.count → option_map_or is_small o false ≡ true → is_place p.x ≡ true → is_place p.y ≡ true → HasBox s p
unfolding part_box
box_by s p None e low h k l = absurd cc
box_by s p (Some []) e low h k l = record { bounds = None; is = rw (lt-ltb p.glyph s.count low, e) refl }
box_by s p (Some (b ∷ bytes)) e low h k l =
    let two : (nat_le 10 (length (b ∷ bytes)) ≡ true) × (is_small_box (header_box (b ∷ bytes)) ≡ true) = both (nat_le 10 (length (b ∷ bytes))) (is_small_box (header_box (b ∷ bytes))) h in
    let sides = are_within (header_box (b ∷ bytes)) two.1 in
    record {
      bounds = Some (record { x_min = signed_at (b ∷ bytes) 2 +ℤ p.x; y_min = signed_at (b ∷ bytes) 4 +ℤ p.y; x_max = signed_at (b ∷ bytes) 6 +ℤ p.x; y_max = signed_at (b ∷ bytes) 8 +ℤ p.y });
      is = rw (lt-ltb p.glyph s.count low, e, two.0, side (signed_at (b ∷ bytes) 2) p.x sides.x_min k, side (signed_at (b ∷ bytes) 4) p.y sides.y_min l, side (signed_at (b ∷ bytes) 6) p.x sides.x_max k, side (signed_at (b ∷ bytes) 8) p.y sides.y_max l) refl;
    }

pub parts_have_boxes : (s : Source) (p : Part) → p.glyph < s.count → has_small_outline (tables s) p.glyph ≡ true → is_place p.x ≡ true → is_place p.y ≡ true → HasBox s p
parts_have_boxes s p low h k l = box_by s p (outline_in (tables s) p.glyph) refl low h k l
