-- One contour after the other.
use Rattle.std.proofs.Common.{◌≡◌, ℕ, ◌+◌, ◌-◌, ◌<◌, ◌≤◌, cond, List, length, get_or, take, drop, ℤ, pos, ap, subst, ◌∙◌, arith, rules, slice_range}
use Rattle.std.proofs.lemmas.List.{drop_more, drop_all, places, get_or-take, get_or-drop, length-take, length-drop}
use Rattle.std.proofs.lemmas.Bool.{le-leb, lt-leb}
use borrow.Rule.Slice.PartMut.{put_mid}
use Rattle.subsetter_variation.specs.declared.glyphs.inference.Point.{Point}
use Rattle.subsetter_variation.specs.Glyphs.Inferred.{moved}
use Rattle.subsetter_variation.specs.Glyphs.Varied.{AreEnds, moved_in}

-- the next contour's end, and those that are left after it
pub next_end : (start n i : ℕ) (ends : List ℕ) → i < length ends → AreEnds start (drop i ends) n → (start ≤ get_or ends i 0) × (get_or ends i 0 < n) × AreEnds (get_or ends i 0 + 1) (drop (i + 1) ends) n
next_end start n i ends l h = subst (λ es. AreEnds start es n) (drop_more ends i 0 l) h

-- where no end is left the contours go to the last point
pub all_ends : (start n i : ℕ) (ends : List ℕ) → length ends ≤ i → AreEnds start (drop i ends) n → start ≡ n
all_ends start n i ends l h = subst (λ es. AreEnds start es n) (drop_all i ends l) h

-- a point of the contour that is next
pub within : (points : List Point) (start i : ℕ) (ends : List ℕ) (k : ℕ) (s : ℤ) → i < length ends → k ≤ get_or ends i 0 → moved_in points start (drop i ends) k s ≡ moved (slice_range points start (get_or ends i 0 + 1)) (k - start) s
within points start i ends k s l h = ap (λ es. moved_in points start es k s) (drop_more ends i 0 l) ∙ ap (λ b. cond b (moved (slice_range points start (get_or ends i 0 + 1)) (k - start) s) (moved_in points (get_or ends i 0 + 1) (drop (i + 1) ends) k s)) (le-leb k (get_or ends i 0) h)

-- a point past it
pub beyond : (points : List Point) (start i : ℕ) (ends : List ℕ) (k : ℕ) (s : ℤ) → i < length ends → get_or ends i 0 + 1 ≤ k → moved_in points start (drop i ends) k s ≡ moved_in points (get_or ends i 0 + 1) (drop (i + 1) ends) k s
beyond points start i ends k s l h = ap (λ es. moved_in points start es k s) (drop_more ends i 0 l) ∙ ap (λ b. cond b (moved (slice_range points start (get_or ends i 0 + 1)) (k - start) s) (moved_in points (get_or ends i 0 + 1) (drop (i + 1) ends) k s)) (lt-leb k (get_or ends i 0) (omega arith))

-- an element of a list of which the part from a on, k elements long, was written
pub mid_below : (a k : ℕ) (xs ys : List ℤ) (i : ℕ) → i < a → a ≤ length xs → get_or (put_mid a k xs ys) i (pos 0) ≡ get_or xs i (pos 0)
mid_below a k xs ys i h l = search (rules, places)

pub mid_at : (a k : ℕ) (xs ys : List ℤ) (i : ℕ) → a ≤ i → i < a + length ys → a ≤ length xs → get_or (put_mid a k xs ys) i (pos 0) ≡ get_or ys (i - a) (pos 0)
mid_at a k xs ys i h p l = search (rules, places)

pub mid_above : (a k : ℕ) (xs ys : List ℤ) (i : ℕ) → length ys ≡ k → a + k ≤ i → a ≤ length xs → get_or (put_mid a k xs ys) i (pos 0) ≡ get_or xs i (pos 0)
mid_above a k xs ys i e h l = search (rules, places)

-- an element of a part, as one of the whole list
pub part_at : (xs : List ℤ) (a w k : ℕ) → a ≤ k → k < a + w → get_or (take w (drop a xs)) (k - a) (pos 0) ≡ get_or xs k (pos 0)
part_at xs a w k h l =
    let lt : k - a < w = omega arith in
    let e : a + (k - a) ≡ k = omega arith in
    get_or-take w (drop a xs) (k - a) (pos 0) lt ∙ get_or-drop a xs (k - a) (pos 0) ∙ ap (λ j. get_or xs j (pos 0)) e

pub length_part : {X : Type 0} (xs : List X) (a b : ℕ) → a ≤ b → b ≤ length xs → length (take (b - a) (drop a xs)) ≡ b - a
length_part xs a b h l = simp (length-take, length-drop) (omega arith)
