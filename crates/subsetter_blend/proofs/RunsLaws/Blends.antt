-- Results of a blend, one after the other.
use Rattle.std.proofs.Common.{◌≡◌, ℕ, zero, suc, ◌+◌, ◌-◌, ◌*◌, ◌<◌, ◌≤◌, ◌^◌, ℤ, pos, ◌+ℤ◌, unsigned_abs, Bool, true, false, List, [], ◌∷◌, ◌++◌, length, get_or, take, drop, map, All, refl, sym, ap, ◌∙◌, arith}
use Rattle.std.specs.Prelude.{◌&&◌}
use Rattle.std.specs.List.{range_with_len}
use Rattle.std.proofs.lemmas.List.{drop_more, drop-drop}
use Rattle.std.proofs.lemmas.Nat.{mul-le}
use Rattle.std.proofs.lemmas.List.Elements.{All-head, All-tail}
use Rattle.std.proofs.lemmas.Bool.{le-leb, leb-true}
use Rattle.subsetter_blend.specs.Runs.Blend.{share, varied, result_at}
use Rattle.subsetter_blend.specs.Runs.Number.{IsWithin, is_within, are_within}

pub varied_step : (v : ℤ) (ss ds : List ℤ) (k : ℕ) → k < length ss → k < length ds → varied v (drop k ss) (drop k ds) ≡ varied (v +ℤ share (get_or ss k (pos 0)) (get_or ds k (pos 0))) (drop (k + 1) ss) (drop (k + 1) ds)
varied_step v ss ds k a b = rw (drop_more ss k (pos 0) a, drop_more ds k (pos 0) b) refl

nothing_left : (ss : List ℤ) (k : ℕ) → length ss ≤ k → drop k ss ≡ []
nothing_left [] zero h = refl
nothing_left [] (suc k) h = refl
nothing_left (s ∷ ss) zero h = absurd (omega arith)
nothing_left (s ∷ ss) (suc k) h = nothing_left ss k (omega arith)

pub varied_over : (v : ℤ) (ss ds : List ℤ) (k : ℕ) → length ss ≤ k → varied v (drop k ss) ds ≡ v
varied_over v ss ds k h = ap (λ (xs : List ℤ). varied v xs ds) (nothing_left ss k h)

and_false : (a b : Bool) → b ≡ false → (a && b) ≡ false
and_false true b h = h
and_false false b h = refl

within_cons : (a b c d : Bool) → (a && b) ≡ true → (b ≡ true → c ≡ d) → (a && c) ≡ d
within_cons true b c d h f = f h
within_cons false b c d h f = absurd cc

-- one result that isn't within bounds
pub one_outside : (f : ℕ → ℤ) (a n i j : ℕ) → i < n → a + i ≡ j → is_within (f j) ≡ false → are_within (map f (range_with_len a n)) ≡ false
one_outside f a zero i j l e h = absurd (omega arith)
one_outside f a (suc n) zero j l e h =
    let s : a ≡ j = omega arith in
    ap (λ (b : Bool). b && are_within (map f (range_with_len (a + 1) n))) (ap (λ (k : ℕ). is_within (f k)) s ∙ h)
one_outside f a (suc n) (suc i) j l e h = and_false (is_within (f a)) _ (one_outside f (a + 1) n i j (omega arith) (omega arith) h)

pub all_within : (xs : List ℤ) → All IsWithin xs → are_within xs ≡ true
all_within [] h = refl
all_within (x ∷ xs) h = rw (le-leb (unsigned_abs x) (2 ^ 45) (All-head IsWithin x xs h)) (all_within xs (All-tail IsWithin x xs h))

-- of two lists
pub within_both : (xs ys : List ℤ) → are_within xs ≡ true → are_within (xs ++ ys) ≡ are_within ys
within_both [] ys h = refl
within_both (x ∷ xs) ys h = within_cons (is_within x) (are_within xs) (are_within (xs ++ ys)) (are_within ys) h (λ t. within_both xs ys t)

-- one share more
pub vary_more : (default value sum s scalar delta : ℤ) (ss ds : List ℤ) (k : ℕ) → k < length ss → k < length ds → varied value (drop k ss) (drop k ds) ≡ varied default ss ds
    → scalar ≡ get_or ss k (pos 0) → delta ≡ get_or ds k (pos 0) → s ≡ share scalar delta → sum ≡ value +ℤ s
    → varied sum (drop (k + 1) ss) (drop (k + 1) ds) ≡ varied default ss ds
vary_more default value sum s scalar delta ss ds k a b same p q r t =
    ap (λ (z : ℤ). varied z (drop (k + 1) ss) (drop (k + 1) ds)) (t ∙ ap (λ (z : ℤ). value +ℤ z) (r ∙ ap (λ (z : ℤ). share z delta) p ∙ ap (λ (z : ℤ). share (get_or ss k (pos 0)) z) q))
    ∙ sym (varied_step value ss ds k a b)
    ∙ same

-- only as many deltas count as there are scalars
pub varied_front : (v : ℤ) (ss ds : List ℤ) → varied v ss (take (length ss) ds) ≡ varied v ss ds
varied_front v [] ds = refl
varied_front v (s ∷ ss) [] = refl
varied_front v (s ∷ ss) (d ∷ ds) = varied_front (v +ℤ share s d) ss ds

-- the deltas of each default are there
pub room_for : (n i count m : ℕ) → i < n → n * count ≤ m → i * count + count ≤ m
room_for n i count m lt le =
    let more : (i + 1) * count ≤ n * count = mul-le (i + 1) count n count (omega arith) (omega arith) in
    let sum : (i + 1) * count ≡ i * count + count = grind arith in
    omega arith

-- after the deltas of the default numbered i are those of the next one
pub rest_more : (rest following ds : List ℤ) (i count : ℕ) → rest ≡ drop (i * count) ds → following ≡ drop count rest → following ≡ drop ((i + 1) * count) ds
rest_more rest following ds i count r b =
    let sum : i * count + count ≡ (i + 1) * count = grind arith in
    b ∙ ap (drop count) r ∙ drop-drop count (i * count) ds ∙ ap (λ (n : ℕ). drop n ds) sum

-- what is computed of the default numbered i is its result
pub result_is : (ss old now ds rest own : List ℤ) (i count : ℕ) (r : ℤ) → count ≡ length ss → get_or now i (pos 0) ≡ get_or old i (pos 0)
    → rest ≡ drop (i * count) ds → own ≡ take count rest → r ≡ varied (get_or now i (pos 0)) ss own → r ≡ result_at ss old ds i
result_is ss old now ds rest own i count r n e at o h =
    h
    ∙ ap (λ (z : ℤ). varied z ss own) e
    ∙ ap (λ (xs : List ℤ). varied (get_or old i (pos 0)) ss xs) (o ∙ ap (take count) at ∙ ap (λ (k : ℕ). take k (drop (i * count) ds)) n)
    ∙ varied_front (get_or old i (pos 0)) ss (drop (i * count) ds)
    ∙ ap (λ (k : ℕ). varied (get_or old i (pos 0)) ss (drop (i * k) ds)) n

pub within_from : (z : ℤ) → is_within z ≡ true → IsWithin z
within_from z h = leb-true (unsigned_abs z) (2 ^ 45) h
