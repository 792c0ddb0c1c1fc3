-- Points that a tuple gives a delta: that alone moves them.
use Rattle.std.proofs.Common.{◌≡◌, ℕ, ◌+◌, ◌-◌, ◌<◌, ◌≤◌, ◌^◌, All, Option, IfSome, option_map, unsigned_abs, cond, List, [], ◌∷◌, length, get_or, take, drop, Some, None, ℤ, pos, ◌+ℤ◌, ◌*ℤ◌, slice_range, ap, subst, sym, ◌∙◌, inl, inr, arith}
use Rattle.std.specs.List.{zip}
use Rattle.std.specs.Option.{option_or}
use Rattle.std.proofs.lemmas.List.{get_or-take, get_or-drop, get_or-map}
use Rattle.std.proofs.lemmas.List.FromFn.{fill_by_all, get_or-map-range_with_len, length-map-range_with_len}
use Rattle.std.proofs.lemmas.List.Elements.{All-from_get_or, All-get_or}
use Rattle.std.proofs.lemmas.Slice.Zip.{get_or-zip}
use Rattle.std.proofs.lemmas.Option.{slice_get-get_or}
use Rattle.std.proofs.lemmas.Bool.{cases_lt, le-leb, lt-leb}
use Rattle.subsetter_variation.specs.declared.glyphs.inference.Point.{Point}
use Rattle.subsetter_variation.specs.Glyphs.Inferred.{delta_or, first_touched, last_touched, moved}
use Rattle.subsetter_variation.specs.Glyphs.Varied.{AreEnds, added, added_to_each, deltas_by_point, delta_of, moved_in, points}
use Rattle.subsetter_variation.specs.Packing.Packed.{deltas, deltas_from, runs}
use Rattle.subsetter_variation.proofs.GlyphsLaws.Contours.{length_part}
use Rattle.subsetter_variation.proofs.PackingLaws.DeltasOn.{length_read}
use Rattle.subsetter_variation.proofs.GlyphsLaws.Sums.{length_points, length_zip, one_more}
use Rattle.subsetter_variation.proofs.GlyphsLaws.Walk.{moved_here}

-- a point of a part, as one of the whole list
point_at : (xs : List Point) (q : Point) (a w k : ℕ) → a ≤ k → k < a + w → get_or (take w (drop a xs)) (k - a) q ≡ get_or xs k q
point_at xs q a w k h l =
    let lt : k - a < w = omega arith in
    let e : a + (k - a) ≡ k = omega arith in
    get_or-take w (drop a xs) (k - a) q lt ∙ get_or-drop a xs (k - a) q ∙ ap (λ j. get_or xs j q) e

moved_touched : (c : List Point) (k : ℕ) (q : Point) (s d : ℤ) → k < length c → (get_or c k q).delta ≡ Some d → moved c k s ≡ s *ℤ d
moved_touched c k q s d l e = sym (moved_here c k q s l) ∙ ap (λ x. delta_or x (get_or c k q).at (option_or (last_touched (take k c)) (last_touched c)) (option_or (first_touched (drop k c)) (first_touched c)) s) e

touched_moves : (ps : List Point) (q : Point) (start : ℕ) (ends : List ℕ) (k : ℕ) (s d : ℤ) → AreEnds start ends (length ps) → start ≤ k → k < length ps → (get_or ps k q).delta ≡ Some d → moved_in ps start ends k s ≡ s *ℤ d
touched_moves ps q start [] k s d h from below e = absurd (omega arith)
touched_moves ps q start (end ∷ ends) k s d h from below e = elim (cases_lt end k) [
  | inl past ↦ ap (λ b. cond b (moved (slice_range ps start (end + 1)) (k - start) s) (moved_in ps (end + 1) ends k s)) (lt-leb k end past) ∙ touched_moves ps q (end + 1) ends k s d h.2 (omega arith) below e
  | inr within ↦
      let last = h.1 in
      let first = h.0 in
      ap (λ b. cond b (moved (slice_range ps start (end + 1)) (k - start) s) (moved_in ps (end + 1) ends k s)) (le-leb k end within)
      ∙ moved_touched (slice_range ps start (end + 1)) (k - start) q s d (omega (arith, length_part ps start (end + 1) (omega arith) (omega arith))) (ap (λ p. p.delta) (point_at ps q start (end + 1 - start) k from (omega arith)) ∙ e)
]

-- of a tuple that gives each point a delta
pub all_moves : (coordinates : List ℤ) (ends : List ℕ) (deltas : List ℤ) (k : ℕ) (s : ℤ) → AreEnds 0 ends (length coordinates) → length deltas ≡ length coordinates → k < length coordinates → moved_in (points coordinates (deltas_by_point (length coordinates) None deltas)) 0 ends k s ≡ s *ℤ get_or deltas k (pos 0)
all_moves coordinates ends deltas k s h same below =
    let n = length coordinates in
    let ds = deltas_by_point n None deltas in
    let many = length-map-range_with_len (delta_of None deltas) 0 n in
    let long = length_points coordinates ds many in
    let pairs = length_zip coordinates ds many in
    let q : Point = record { at = pos 0; delta = None } in
    let own : get_or ds k None ≡ Some (get_or deltas k (pos 0)) = get_or-map-range_with_len (delta_of None deltas) 0 n k k None below (omega arith) ∙ slice_get-get_or deltas k (pos 0) (omega arith) in
    let pair = get_or-zip coordinates ds k (pos 0, None) below (omega (arith, many)) in
    let point = get_or-map (λ p. record { at = p.0; delta = p.1 }) (zip coordinates ds) k (pos 0, None) q (omega (arith, pairs)) in
    touched_moves (points coordinates ds) q 0 ends k s (get_or deltas k (pos 0)) (subst (AreEnds 0 ends) (sym long) h) (omega arith) (omega (arith, long)) (ap (λ p. p.delta) (point ∙ ap (λ p. record { at = p.0; delta = p.1 }) pair) ∙ own)

-- the sums after each was moved by its delta
pub all_added : (coordinates : List ℤ) (ends : List ℕ) (deltas : List ℤ) (s : ℤ) (sums new : List ℤ) → AreEnds 0 ends (length coordinates) → length deltas ≡ length coordinates → length sums ≡ length coordinates → length new ≡ length sums → ((k : ℕ) → k < length sums → get_or new k (pos 0) ≡ get_or sums k (pos 0) +ℤ s *ℤ get_or deltas k (pos 0)) → new ≡ added coordinates ends (deltas_by_point (length coordinates) None deltas) s sums
all_added coordinates ends deltas s sums new h same count long steps =
    fill_by_all (λ k. get_or sums k (pos 0) +ℤ moved_in (points coordinates (deltas_by_point (length coordinates) None deltas)) 0 ends k s) new (length sums) (pos 0) long (λ k l. steps k l ∙ ap (λ z. get_or sums k (pos 0) +ℤ z) (sym (all_moves coordinates ends deltas k s h same (omega arith))))

-- what is read of them, and the bytes after
all_read_and_added : (coordinates : List ℤ) (ends : List ℕ) (s : ℤ) (sums new : List ℤ) (rest : List ℕ) (o : Option (List ℤ × List ℕ)) → AreEnds 0 ends (length coordinates) → length sums ≡ length coordinates → length new ≡ length sums → IfSome o (λ d. length d.0 ≡ length coordinates) → Some rest ≡ option_map (λ d. d.1) o → IfSome o (λ d. (k : ℕ) → k < length sums → get_or new k (pos 0) ≡ get_or sums k (pos 0) +ℤ s *ℤ get_or d.0 k (pos 0)) → option_map {U = List ℤ × List ℕ} (λ d. (added coordinates ends (deltas_by_point (length coordinates) None d.0) s sums, d.1)) o ≡ Some (new, rest)
all_read_and_added coordinates ends s sums new rest None h count long same following steps = absurd (cc)
all_read_and_added coordinates ends s sums new rest (Some d) h count long same following steps =
    let bytes : d.1 ≡ rest = cc in
    ap (λ xs. Some (xs, d.1)) (sym (all_added coordinates ends d.0 s sums new h same count long steps)) ∙ ap (λ b. Some (new, b)) bytes

-- the same of a call that was handed the same sums and the same scalar under other names
pub added_here : (coordinates : List ℤ) (ends bytes : List ℕ) (s t : ℤ) (sums now new : List ℤ) (rest : List ℕ) → now ≡ sums → s ≡ t → AreEnds 0 ends (length coordinates) → length sums ≡ length coordinates → length new ≡ length now → Some rest ≡ option_map (λ d. d.1) (deltas (length now) bytes) → IfSome (deltas (length now) bytes) (λ d. (k : ℕ) → k < length now → get_or new k (pos 0) ≡ get_or now k (pos 0) +ℤ s *ℤ get_or d.0 k (pos 0)) → added_to_each coordinates ends bytes t sums ≡ Some (new, rest)
unfolding deltas
added_here coordinates ends bytes s t sums now new rest a b h count long following steps =
    let many : length now ≡ length coordinates = ap length a ∙ count in
    ap (added_to_each coordinates ends bytes t) (sym a)
    ∙ ap (λ z. added_to_each coordinates ends bytes z now) (sym b)
    ∙ ap (λ n. option_map {U = List ℤ × List ℕ} (λ d. (added coordinates ends (deltas_by_point (length coordinates) None d.0) s now, d.1)) (deltas_from n (runs bytes))) (sym many)
    ∙ all_read_and_added coordinates ends s now new rest (deltas_from (length now) (runs bytes)) h many long (subst (λ n. IfSome (deltas_from (length now) (runs bytes)) (λ d. length d.0 ≡ n)) many (length_read (length now) (runs bytes))) following steps

-- the sums stay within a bound
pub all_within : (s : ℤ) (sums new : List ℤ) (b : ℕ) (rest : List ℕ) (o : Option (List ℤ × List ℕ)) → length new ≡ length sums → Some rest ≡ option_map (λ d. d.1) o → IfSome o (λ d. (k : ℕ) → k < length sums → get_or new k (pos 0) ≡ get_or sums k (pos 0) +ℤ s *ℤ get_or d.0 k (pos 0)) → IfSome o (λ d. (k : ℕ) → k < length sums → unsigned_abs (s *ℤ get_or d.0 k (pos 0)) ≤ 2 ^ 45) → All (λ z. unsigned_abs z ≤ b) sums → All (λ z. unsigned_abs z ≤ b + 2 ^ 45) new
all_within s sums new b rest None long following steps small h = absurd (cc)
all_within s sums new b rest (Some d) long following steps small h = All-from_get_or (λ z. unsigned_abs z ≤ b + 2 ^ 45) new (pos 0) (λ k lt.
    let inside : k < length sums = omega arith in
    one_more (get_or sums k (pos 0)) _ (get_or new k (pos 0)) b (2 ^ 45) (steps k inside) (All-get_or (λ z. unsigned_abs z ≤ b) sums k (pos 0) inside h) (small k inside))
