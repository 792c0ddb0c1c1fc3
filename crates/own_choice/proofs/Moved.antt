-- Off a font's default the choice has the boxes and the limits of its instances.
--   drawn_are_small              the outline of a glyph that can be a part is in a small box
--   instances_fit                maxp of an instance has limits for glyphs of as many parts as own ones can have
use Rattle.std.proofs.Common.{◌≡◌, ℕ, zero, suc, ◌+◌, ◌-◌, ◌*◌, ◌%◌, ◌^◌, ◌<◌, ◌≤◌, Bool, true, false, ◌&&◌, FitsSigned, w16, List, [], ◌∷◌, ◌++◌, length, map, Some, Ok, ℤ, pos, negsuc, refl, sym, ap, subst, ◌∙◌, append_assoc, arith, leb-true}
use Rattle.std.specs.Prelude.{max, nat_le, replicate, unsigned_abs}
use Rattle.std.specs.Int.{cast_signed, cast_unsigned, int_max, int_min, to_be_bytes}
use Rattle.std.specs.List.{AllByRecursion, fold}
use Rattle.std.specs.Option.{option_map_or}
use Rattle.std.proofs.lemmas.Bool.{le-leb}
use Rattle.std.proofs.lemmas.Int.{ints, to_z-of_z}
use Rattle.std.proofs.Math.Nat.{div-le_self, mul-le-mul_left}
use Rattle.subsetter_base.specs.Bytes.{◌>>=◌, aligned, be, signed_at}
use Rattle.subsetter_base.proofs.ByteLemmas.{be-u16}
use Rattle.subsetter_base.proofs.Results.{bind_ok, done_is}
use Rattle.subsetter_points.specs.Bounds.{box_around}
use Rattle.subsetter_points.specs.Simple.{box, end_bytes, parts_bytes, point_bytes, signed_word, xs_of, ys_of}
use Rattle.subsetter_points.specs.declared.bounds.Bounds.{Bounds}
use Rattle.subsetter_points.specs.declared.outline.Point.{Point}
use Rattle.subsetter_points.proofs.BoundsLaws.{grown}
use Rattle.subsetter_instance.specs.Glyphs.Drawn.{Drawn, drawn}
use Rattle.subsetter_instance.specs.Plain.{drawn_all, drawn_if}
use Rattle.subsetter_instance.specs.Source.{Source}
use Rattle.subsetter_instance.specs.Tables.Extremes.{glyph_extents}
use Rattle.subsetter_instance.specs.Tables.Written.{maxp_bytes, most_contours, most_points as drawn_points, outline_bytes}
use Rattle.subsetter_instance.specs.declared.tables.extremes.Extents.{Extents}
use Rattle.subsetter_instance.proofs.FileLaws.Among.{drawn_one}
use Rattle.own_glyphs.specs.Composite.{header_box}
use Rattle.own_glyphs.specs.Profile.{field_at}
use Rattle.text_metrics.specs.Ink.{each_from}
use Rattle.own_choice.specs.Laws.{HasLimits}
use Rattle.own_choice.specs.Parts.{drawn_size, is_small, is_small_box, is_within, most_points, size_of, sized_parts, sizes, times_in}
use Rattle.own_choice.specs.declared.drawn.Size.{Size}
use Rattle.own_choice.proofs.Fitting.{are_within, limits_are, times_fit}

-- ---- the largest glyph

grows : (xs : List ℕ) (a : ℕ) → a ≤ fold max a xs
grows [] a = omega arith
grows (x ∷ xs) a = omega (arith, grows xs (max a x))

each_within : (f : ℕ → Size) (a g n k : ℕ) → k < n → (f (g + k)).count ≤ fold max a (map (λ (z : Size). z.count) (each_from f g n))
each_within f a g zero k h = absurd (omega arith)
each_within f a g (suc n) zero h =
    let same : g + zero ≡ g = omega arith in
    subst (λ i. (f i).count ≤ fold max a (map (λ (z : Size). z.count) (each_from f g (suc n)))) (sym same) (omega (arith, grows (map (λ (z : Size). z.count) (each_from f (g + 1) n)) (max a (f g).count)))
each_within f a g (suc n) (suc k) h =
    let same : g + 1 + k ≡ g + suc k = omega arith in
    subst (λ i. (f i).count ≤ fold max a (map (λ (z : Size). z.count) (each_from f g (suc n)))) same (each_within f (max a (f g).count) (g + 1) n k (omega arith))

module _ (s : Source) (at : List ℤ) (steps count : ℕ) where
  sized : (g : ℕ) (d : Drawn) → g < count → drawn s at steps g ≡ Ok d → (drawn_size d).count ≤ most_points (sizes s at steps count)
  sized g d low h =
      let same : 0 + g ≡ g = omega arith in
      let found : (size_of (drawn s at steps g)).count ≤ most_points (sizes s at steps count) = subst (λ i. (size_of (drawn s at steps i)).count ≤ most_points (sizes s at steps count)) same (each_within (λ k. size_of (drawn s at steps k)) 0 0 count g low) in
      subst (λ r. (size_of r).count ≤ most_points (sizes s at steps count)) h found

  -- points and contours of drawn glyphs, beyond some that are no more than the largest glyph has
  few_by : (glyphs : List ℕ) (ds : List Drawn) (a b : ℕ) → AllByRecursion (λ g. g < count) glyphs → drawn_all s at steps glyphs ≡ Ok ds
      → a ≤ most_points (sizes s at steps count) → b ≤ most_points (sizes s at steps count)
      → (fold max a (map (λ (d : Drawn). length d.points) ds) ≤ most_points (sizes s at steps count)) × (fold max b (map (λ (d : Drawn). length d.ends) ds) ≤ most_points (sizes s at steps count))
  few_by [] ds a b low h k l = subst (λ (ds : List Drawn). (fold max a (map (λ (d : Drawn). length d.points) ds) ≤ most_points (sizes s at steps count)) × (fold max b (map (λ (d : Drawn). length d.ends) ds) ≤ most_points (sizes s at steps count))) (done_is [] ds h) (k, l)
  few_by (g ∷ glyphs) ds a b low h k l =
      let one = bind_ok (drawn_if s at steps g) (λ d. drawn_all s at steps glyphs >>= λ rest. Ok (d ∷ rest)) ds h in
      let more = bind_ok (drawn_all s at steps glyphs) (λ rest. Ok (one.0 ∷ rest)) ds one.2 in
      let its : (drawn_size one.0).count ≤ most_points (sizes s at steps count) = sized g one.0 low.0 (drawn_one s at steps g one.0 one.1).1 in
      subst (λ (ds : List Drawn). (fold max a (map (λ (d : Drawn). length d.points) ds) ≤ most_points (sizes s at steps count)) × (fold max b (map (λ (d : Drawn). length d.ends) ds) ≤ most_points (sizes s at steps count))) (done_is (one.0 ∷ more.0) ds more.2) (few_by glyphs more.0 (max a (length one.0.points)) (max b (length one.0.ends)) low.1 more.1 (omega arith) (omega arith))

  pub instances_fit_by : (n parts : ℕ) (glyphs : List ℕ) (ds : List Drawn) → AllByRecursion (λ g. g < count) glyphs → drawn_all s at steps glyphs ≡ Ok ds → parts ≤ times_in (most_points (sizes s at steps count)) → 0 < parts → HasLimits parts (maxp_bytes n ds)
  instances_fit_by n parts glyphs ds low h few above =
      let most : ℕ = most_points (sizes s at steps count) in
      let all = few_by glyphs ds 0 0 low h (omega arith) (omega arith) in
      let wide : parts * most < 65536 = times_fit most parts few in
      let points : parts * drawn_points ds ≤ parts * most = mul-le-mul_left parts all.0 in
      let contours : parts * most_contours ds ≤ parts * most = mul-le-mul_left parts all.1 in
      let first : field_at (maxp_bytes n ds) 6 ≡ drawn_points ds = be-u16 (drawn_points ds) (omega (arith, small_of parts most (drawn_points ds) above wide all.0)) in
      let second : field_at (maxp_bytes n ds) 8 ≡ most_contours ds = be-u16 (most_contours ds) (omega (arith, small_of parts most (most_contours ds) above wide all.1)) in
      let third : max (field_at (maxp_bytes n ds) 6) (field_at (maxp_bytes n ds) 10) ≡ drawn_points ds = ap (λ k. max k 0) first ∙ no_more (drawn_points ds) in
      let fourth : max (field_at (maxp_bytes n ds) 8) (field_at (maxp_bytes n ds) 12) ≡ most_contours ds = ap (λ k. max k 0) second ∙ no_more (most_contours ds) in
      let deep : field_at (maxp_bytes n ds) 30 ≡ 1 = refl in
      limits_are (maxp_bytes n ds) parts (omega (arith, div-le_self 65535 (max most 1)))
      (subst (λ k. parts * k < 65536) (sym third) (omega arith)) (subst (λ k. parts * k < 65536) (sym fourth) (omega arith)) (omega (arith, deep))
    where
      no_more : (n : ℕ) → max n 0 ≡ n
      no_more n = omega arith

      small_of : (parts most n : ℕ) → 0 < parts → parts * most < 65536 → n ≤ most → n < 65536
      small_of zero most n above wide le = absurd (omega arith)
      small_of (suc parts) most n above wide le = omega arith

pub instances_fit : (s : Source) (at : List ℤ) (steps count n parts : ℕ) (glyphs : List ℕ) (ds : List Drawn) → AllByRecursion (λ g. g < count) glyphs → drawn_all s at steps glyphs ≡ Ok ds → parts ≤ (sized_parts (sizes s at steps count)).most → 0 < parts → HasLimits parts (maxp_bytes n ds)
instances_fit s at steps count n parts glyphs ds low h few above = instances_fit_by s at steps count n parts glyphs ds low h few above

-- ---- the box of what is drawn

-- a side of a small box is read back
side_back : (v : ℤ) → is_within v ≡ true → cast_signed w16 (be (signed_word v)) ≡ v
side_back v h = ap (cast_signed w16) (be-u16 (cast_unsigned w16 v) (small_word v (leb-true (unsigned_abs v) 16384 h))) ∙ to_z-of_z w16 v (fits v (leb-true (unsigned_abs v) 16384 h))
  where
    fits : (v : ℤ) → unsigned_abs v ≤ 16384 → FitsSigned w16 v
    fits (pos n) le = record { sfits = omega (arith, ints) }
    fits (negsuc n) le = record { sfits = omega (arith, ints) }

    small_word : (v : ℤ) → unsigned_abs v ≤ 16384 → cast_unsigned w16 v < 2 ^ 16
    small_word (pos n) le = omega arith
    small_word (negsuc n) le = omega arith

and_is : (a b : Bool) → a ≡ true → b ≡ true → (a && b) ≡ true
and_is true b e f = f
and_is false b e f = absurd cc

abbrev sides_of : ℤ → ℤ → ℤ → ℤ → Bounds
sides_of p q r s = record { x_min = p; y_min = q; x_max = r; y_max = s }

same_sides : (p q r s x y z w : ℤ) → p ≡ x → q ≡ y → r ≡ z → s ≡ w → sides_of p q r s ≡ sides_of x y z w
same_sides p q r s x y z w i j k l = rw (i, j, k, l) refl

-- a header with a small box, and what follows it
header_back : (n : ℕ) (p q r s : ℤ) (rest : List ℕ) → is_small_box (sides_of p q r s) ≡ true → is_small (to_be_bytes w16 n ++ ((signed_word p ++ signed_word q ++ signed_word r ++ signed_word s) ++ rest)) ≡ true
header_back n p q r s rest h =
    let bytes : List ℕ = to_be_bytes w16 n ++ ((signed_word p ++ signed_word q ++ signed_word r ++ signed_word s) ++ rest) in
    let sides = are_within (sides_of p q r s) h in
    let long : nat_le 10 (length bytes) ≡ true = le-leb 10 (length bytes) (omega arith) in
    let same : header_box bytes ≡ sides_of p q r s = same_sides (signed_at bytes 2) (signed_at bytes 4) (signed_at bytes 6) (signed_at bytes 8) p q r s (side_back p sides.x_min) (side_back q sides.y_min) (side_back r sides.x_max) (side_back s sides.y_max) in
    and_is (nat_le 10 (length bytes)) (is_small_box (header_box bytes)) long (ap is_small_box same ∙ h)

-- the description of points in a small box
points_back : (ends : List ℕ) (p : Point) (points : List Point) → is_small_box (box_around p points) ≡ true → is_small (aligned 2 (parts_bytes ends (p ∷ points))) ≡ true
unfolding parts_bytes
points_back ends p points h =
    let more : List ℕ = end_bytes ends ++ (0 ∷ 0 ∷ point_bytes (p ∷ points)) in
    let pad : List ℕ = replicate ((2 - length (parts_bytes ends (p ∷ points)) % 2) % 2) 0 in
    let whole : aligned 2 (parts_bytes ends (p ∷ points)) ≡ to_be_bytes w16 (length ends) ++ (box p points ++ (more ++ pad)) =
    append_assoc (to_be_bytes w16 (length ends)) (box p points ++ more) pad ∙ ap (λ l. to_be_bytes w16 (length ends) ++ l) (append_assoc (box p points) more pad) in
    let small : is_small_box (sides_of (fold int_min p.x (xs_of points)) (fold int_min p.y (ys_of points)) (fold int_max p.x (xs_of points)) (fold int_max p.y (ys_of points))) ≡ true =
    ap is_small_box (sym (grown (sides_of p.x p.y p.x p.y) points)) ∙ h in
    ap is_small whole ∙ header_back (length ends) (fold int_min p.x (xs_of points)) (fold int_min p.y (ys_of points)) (fold int_max p.x (xs_of points)) (fold int_max p.y (ys_of points)) (more ++ pad) small

pub drawn_are_small : (d : Drawn) → (drawn_size d).is_small ≡ true → is_small (outline_bytes (Some d)) ≡ true
unfolding parts_bytes
drawn_are_small d h = by d.ends d.points h
  where
    by : (ends : List ℕ) (points : List Point) → option_map_or (λ (e : Extents). is_small_box e.bounds) (glyph_extents d.advance points) true ≡ true → is_small (aligned 2 (parts_bytes ends points)) ≡ true
    by ends [] k = refl
    by ends (p ∷ points) k = points_back ends p points k
