-- What is left to write, after what was written, and what is left to test: the step of each loop.
use Rattle.std.proofs.Common.{◌≡◌, ℕ, ◌+◌, ◌-◌, ◌<◌, ◌≤◌, Bool, true, false, List, [], ◌∷◌, ◌++◌, length, take, drop, refl, sym, ap, ◌∙◌, append_assoc, arith, ℤ, pos, negsuc, w16}
use Rattle.std.specs.Prelude.{◌==◌, ◌&&◌, nat_lt, nat_le, ◌-ℤ◌, IsTrue}
use Rattle.std.specs.List.{list_all}
use Rattle.std.specs.Int.{to_be_bytes}
use Rattle.std.proofs.lemmas.Bool.{eqb-true, lt-ltb, ltb-true, le-leb, lt-leb, leb-true}
use Rattle.std.proofs.lemmas.List.{append-nil, length-take-le, length-drop, take-append-drop}
use mir.Val.{SFits}
use Rattle.subsetter_points.specs.declared.outline.Point.{Point}
use Rattle.subsetter_points.specs.Simple.{all_points, has_16_bits, contours, shortest_encoding, encoded_delta, flag_of, flag_bytes, delta_bytes, ends_of, parts_bytes, simple_bytes, xs_of, ys_of, box, end_bytes, point_bytes, deltas_fit, points_fit, parts_fit, fits, are_ends}
use Rattle.subsetter_points.proofs.Back.{both, are_ends_count, ends_of_length}

-- ---- steps

-- a number of 16 bits is one
pub fits_is : (z : ℤ) → SFits w16 z → has_16_bits z ≡ true
fits_is (pos n) f = lt-ltb n 0x8000 f.sfits
fits_is (negsuc n) f = lt-ltb n 0x8000 f.sfits

-- the first step fits, and so do the others
pub deltas_next : (v x : ℤ) (all zs : List ℤ) → all ≡ x ∷ zs → IsTrue (deltas_fit v all) → (has_16_bits (x -ℤ v) ≡ true) × (deltas_fit x zs ≡ true)
unfolding deltas_fit
deltas_next v x all zs s e =
    let a = both (has_16_bits x) (has_16_bits (x -ℤ v) && deltas_fit x zs) (sym (ap (deltas_fit v) s) ∙ e) in
    let b = both (has_16_bits (x -ℤ v)) (deltas_fit x zs) a.1 in
    (b.0, b.1)

pub deltas_written : (out new : List ℕ) (v x : ℤ) (all zs : List ℤ) → all ≡ x ∷ zs → new ≡ out ++ encoded_delta (shortest_encoding (x -ℤ v)) (x -ℤ v) → out ++ delta_bytes v all ≡ new ++ delta_bytes x zs
unfolding delta_bytes
deltas_written out new v x all zs s e =
    ap (λ l. out ++ delta_bytes v l) s ∙ sym (append_assoc out (encoded_delta (shortest_encoding (x -ℤ v)) (x -ℤ v)) (delta_bytes x zs)) ∙ ap (λ l. l ++ delta_bytes x zs) (sym e)

pub deltas_end : (out : List ℕ) (v : ℤ) (all : List ℤ) → all ≡ [] → out ++ delta_bytes v all ≡ out
unfolding delta_bytes
deltas_end out v all s = ap (λ l. out ++ delta_bytes v l) s ∙ simp append-nil

-- ---- flags

pub flags_written : (out new : List ℕ) (overlap : Bool) (x y : ℤ) (all ps : List Point) (p : Point) → all ≡ p ∷ ps → new ≡ out ++ flag_of overlap p.on_curve (shortest_encoding (p.x -ℤ x)) (shortest_encoding (p.y -ℤ y)) ∷ []
    → out ++ flag_bytes overlap x y all ≡ new ++ flag_bytes false p.x p.y ps
unfolding flag_bytes
flags_written out new overlap x y all ps p s e =
    ap (λ l. out ++ flag_bytes overlap x y l) s ∙ sym (append_assoc out (flag_of overlap p.on_curve (shortest_encoding (p.x -ℤ x)) (shortest_encoding (p.y -ℤ y)) ∷ []) (flag_bytes false p.x p.y ps)) ∙ ap (λ l. l ++ flag_bytes false p.x p.y ps) (sym e)

pub flags_written_end : (out : List ℕ) (overlap : Bool) (x y : ℤ) (all : List Point) → all ≡ [] → out ++ flag_bytes overlap x y all ≡ out
unfolding flag_bytes
flags_written_end out overlap x y all s = ap (λ l. out ++ flag_bytes overlap x y l) s ∙ simp append-nil

-- ---- tests

pub fit_more : (v x : ℤ) (all zs : List ℤ) → all ≡ x ∷ zs → has_16_bits x ≡ true → has_16_bits (x -ℤ v) ≡ true → deltas_fit v all ≡ deltas_fit x zs
unfolding deltas_fit
fit_more v x all zs s a b = ap (deltas_fit v) s ∙ ap (λ t. t && (has_16_bits (x -ℤ v) && deltas_fit x zs)) a ∙ ap (λ t. t && deltas_fit x zs) b

pub fit_step : (fit : Bool) (v x : ℤ) (all zs : List ℤ) → all ≡ x ∷ zs → has_16_bits x ≡ true → fit && deltas_fit v all ≡ (fit && has_16_bits (x -ℤ v)) && deltas_fit x zs
unfolding deltas_fit
fit_step true v x all zs s a = ap (deltas_fit v) s ∙ ap (λ t. t && (has_16_bits (x -ℤ v) && deltas_fit x zs)) a
fit_step false v x all zs s a = refl

pub fit_over : (fit : Bool) (v : ℤ) (all : List ℤ) → all ≡ [] → fit && deltas_fit v all ≡ fit
unfolding deltas_fit
fit_over true v all s = ap (deltas_fit v) s
fit_over false v all s = refl

pub fit_none : (v x : ℤ) (all zs : List ℤ) → all ≡ x ∷ zs → has_16_bits x ≡ true → has_16_bits (x -ℤ v) ≡ false → deltas_fit v all ≡ false
unfolding deltas_fit
fit_none v x all zs s a b = ap (deltas_fit v) s ∙ ap (λ t. t && (has_16_bits (x -ℤ v) && deltas_fit x zs)) a ∙ ap (λ t. t && deltas_fit x zs) b

pub fit_end : (v : ℤ) (all : List ℤ) → all ≡ [] → deltas_fit v all ≡ true
unfolding deltas_fit
fit_end v all s = ap (deltas_fit v) s

pub are_more : (from end n : ℕ) (all es : List ℕ) → all ≡ end ∷ es → from ≤ end → are_ends from all n ≡ are_ends (end + 1) es n
unfolding are_ends
are_more from end n all es s h = ap (λ l. are_ends from l n) s ∙ ap (λ t. t && are_ends (end + 1) es n) (le-leb from end h)

pub are_none : (from end n : ℕ) (all es : List ℕ) → all ≡ end ∷ es → end < from → are_ends from all n ≡ false
unfolding are_ends
are_none from end n all es s h = ap (λ l. are_ends from l n) s ∙ ap (λ t. t && are_ends (end + 1) es n) (lt-leb from end h)

pub are_end : (from n : ℕ) (all : List ℕ) → all ≡ [] → are_ends from all n ≡ (from == n)
unfolding are_ends
are_end from n all s = ap (λ l. are_ends from l n) s

-- ---- contours, and their ends and points

-- points that are parted at their ends have these ends, and are these points
pub parted : (from n : ℕ) (es : List ℕ) (ps : List Point) → are_ends from es n ≡ true → from + length ps ≡ n
    → (ends_of from (contours from es ps) ≡ es) × (all_points (contours from es ps) ≡ ps)
unfolding are_ends contours ends_of
parted from n [] [] e s = (refl, refl)
parted from n [] (p ∷ ps) e s =
    let same : from ≡ n = eqb-true from n e in
    absurd (omega arith)
parted from n (end ∷ es) ps e s =
    let a = both (nat_le from end) (are_ends (end + 1) es n) e in
    let le : from ≤ end = leb-true from end a.0 in
    let within : end + 1 ≤ n = (are_ends_count (end + 1) es n a.1).0 in
    let size = end + 1 - from in
    let taken : length (take size ps) ≡ size = length-take-le size ps (omega arith) in
    let left : end + 1 + length (drop size ps) ≡ n = omega (arith, length-drop size ps) in
    let more = parted (end + 1) n es (drop size ps) a.1 left in
    let head : from + length (take size ps) - 1 ≡ end = omega (arith, taken) in
    let next : from + length (take size ps) ≡ end + 1 = omega (arith, taken) in (
      ap (λ k. k ∷ ends_of (from + length (take size ps)) (contours (end + 1) es (drop size ps))) head ∙ ap (λ k. end ∷ ends_of k (contours (end + 1) es (drop size ps))) next ∙ ap (λ l. end ∷ l) more.0,
      ap (λ l. take size ps ++ l) more.1 ∙ take-append-drop size ps,
    )

-- each contour has a point
parted_all : (from n : ℕ) (es : List ℕ) (ps : List Point) → are_ends from es n ≡ true → from + length ps ≡ n → list_all (λ c. nat_lt 0 (length c)) (contours from es ps) ≡ true
unfolding are_ends contours
parted_all from n [] ps e s = refl
parted_all from n (end ∷ es) ps e s =
    let a = both (nat_le from end) (are_ends (end + 1) es n) e in
    let le : from ≤ end = leb-true from end a.0 in
    let within : end + 1 ≤ n = (are_ends_count (end + 1) es n a.1).0 in
    let size = end + 1 - from in
    let taken : length (take size ps) ≡ size = length-take-le size ps (omega arith) in
    let left : end + 1 + length (drop size ps) ≡ n = omega (arith, length-drop size ps) in
    ap (λ t. t && list_all (λ c. nat_lt 0 (length c)) (contours (end + 1) es (drop size ps))) (lt-ltb 0 (length (take size ps)) (omega (arith, taken))) ∙ parted_all (end + 1) n es (drop size ps) a.1 left

-- the bytes of parts that fit are those of their contours
pub bytes_of_parts : (es : List ℕ) (ps : List Point) → IsTrue (parts_fit es ps) → parts_bytes es ps ≡ simple_bytes (contours 0 es ps)
bytes_of_parts es ps h =
    let a = both (are_ends 0 es (length ps)) (nat_lt (length es) 0x8000 && points_fit ps) h in
    let p = parted 0 (length ps) es ps a.0 (omega arith) in
    ap (λ l. parts_bytes l ps) (sym p.0) ∙ ap (parts_bytes (ends_of 0 (contours 0 es ps))) (sym p.1)

-- contours of parts that fit, fit
pub fits_of_parts : (es : List ℕ) (ps : List Point) → IsTrue (parts_fit es ps) → IsTrue (fits (contours 0 es ps))
fits_of_parts es ps h =
    let a = both (are_ends 0 es (length ps)) (nat_lt (length es) 0x8000 && points_fit ps) h in
    let b = both (nat_lt (length es) 0x8000) (points_fit ps) a.1 in
    let o = contours 0 es ps in
    let p = parted 0 (length ps) es ps a.0 (omega arith) in
    let lt : length es < 0x8000 = ltb-true (length es) 0x8000 b.0 in
    let few : length o < 0x8000 = omega (arith, ap length p.0, ends_of_length 0 o) in
    ap (λ t. t && (list_all (λ c. nat_lt 0 (length c)) o && points_fit (all_points o))) (lt-ltb (length o) 0x8000 few)
    ∙ ap (λ t. t && points_fit (all_points o)) (parted_all 0 (length ps) es ps a.0 (omega arith))
    ∙ ap points_fit p.1 ∙ b.1

-- ---- parts one after the other

pub four_written : (out one two three four a b c d : List ℕ) → one ≡ out ++ a → two ≡ one ++ b → three ≡ two ++ c → four ≡ three ++ d → four ≡ out ++ (a ++ b ++ c ++ d)
four_written out one two three four a b c d p q r s =
    let all : ((((out ++ a) ++ b) ++ c) ++ d) ≡ out ++ (a ++ b ++ c ++ d) = simp append_assoc in
    s ∙ ap (λ l. l ++ d) (r ∙ ap (λ l. l ++ c) (q ∙ ap (λ l. l ++ b) p)) ∙ all

pub seven_written : (out n b es z f x y : List ℕ) (o1 o2 o3 o4 o5 o6 o7 : List ℕ) → o1 ≡ out ++ n → o2 ≡ o1 ++ b → o3 ≡ o2 ++ es → o4 ≡ o3 ++ z → o5 ≡ o4 ++ f → o6 ≡ o5 ++ x → o7 ≡ o6 ++ y
    → o7 ≡ out ++ (n ++ (b ++ (es ++ (z ++ (f ++ (x ++ y))))))
seven_written out n b es z f x y o1 o2 o3 o4 o5 o6 o7 p q r s t u v =
    let all : ((((((out ++ n) ++ b) ++ es) ++ z) ++ f) ++ x) ++ y ≡ out ++ (n ++ (b ++ (es ++ (z ++ (f ++ (x ++ y)))))) = simp append_assoc in
    v ∙ ap (λ l. l ++ y) (u ∙ ap (λ l. l ++ x) (t ∙ ap (λ l. l ++ f) (s ∙ ap (λ l. l ++ z) (r ∙ ap (λ l. l ++ es) (q ∙ ap (λ l. l ++ b) p))))) ∙ all

-- ---- parts that fit

pub fit_parts : (es : List ℕ) (ps : List Point) → IsTrue (parts_fit es ps) → (length es < 0x8000) × (IsTrue (deltas_fit (pos 0) (xs_of ps))) × (IsTrue (deltas_fit (pos 0) (ys_of ps)))
fit_parts es ps h =
    let a = both (are_ends 0 es (length ps)) (nat_lt (length es) 0x8000 && points_fit ps) h in
    let b = both (nat_lt (length es) 0x8000) (points_fit ps) a.1 in
    let c = both (nat_lt (length ps) 0x10000) (deltas_fit (pos 0) (xs_of ps) && deltas_fit (pos 0) (ys_of ps)) b.1 in
    let d = both (deltas_fit (pos 0) (xs_of ps)) (deltas_fit (pos 0) (ys_of ps)) c.1 in
    (ltb-true (length es) 0x8000 b.0, d.0, d.1)

pub parts_bytes_cons : (es : List ℕ) (all ps : List Point) (p : Point) → all ≡ p ∷ ps
    → parts_bytes es all ≡ to_be_bytes w16 (length es) ++ (box p ps ++ (end_bytes es ++ ((0 ∷ 0 ∷ []) ++ (flag_bytes true (pos 0) (pos 0) all ++ (delta_bytes (pos 0) (xs_of all) ++ delta_bytes (pos 0) (ys_of all))))))
unfolding parts_bytes
parts_bytes_cons es all ps p s = ap (parts_bytes es) s ∙ ap (λ l. to_be_bytes w16 (length es) ++ (box p ps ++ (end_bytes es ++ (0 ∷ 0 ∷ point_bytes l)))) (sym s)

pub parts_bytes_nil : (es : List ℕ) (all : List Point) → length all ≡ 0 → parts_bytes es all ≡ []
unfolding parts_bytes
parts_bytes_nil es [] h = refl
parts_bytes_nil es (p ∷ ps) h = absurd (omega arith)
