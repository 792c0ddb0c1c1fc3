-- The shortest decimal number.
use Rattle.std.proofs.Common.{◌≡◌, ◌≢◌, ℕ, ◌+◌, ◌*◌, ◌/◌, ◌%◌, ◌<◌, ◌≤◌, Bool, true, false, refl, sym, ap, ◌∙◌, arith, eq-eqb}
use borrow.Author.Count.{below_more, below_none}
use Rattle.std.specs.Prelude.{◌==◌, ◌&&◌, ◌||◌, nat_lt, if◌then◌else◌}
use Rattle.std.proofs.lemmas.Bool.Decides.{nat_tests}
use Rattle.pdf_names.specs.Decimal.{back, decimals, nearest_even, rounded, rounds_back, IsShortest, ShortestIsTaken}

-- ---- to the nearest

-- a whole number whose distance from a quotient by 65536 is at most a half
record IsNear (x m : ℕ) : Type 0 where
  pub low : x ≤ 65536 * m + 32768
  pub high : 65536 * m ≤ x + 32768

near_by : (a b : Bool) (q r : ℕ) → (a ≡ true → r < 32768) → (a ≡ false → 32768 ≤ r) → (b ≡ true → r ≡ 32768) → r < 65536 → IsNear (65536 * q + r) (if a || b then q else q + 1)
near_by true b q r less most same small = let l = less refl in record { low = omega arith; high = omega arith }
near_by false true q r less most same small = let l = same refl in record { low = omega arith; high = omega arith }
near_by false false q r less most same small = let l = most refl in record { low = omega arith; high = omega arith }

is_less : (r : ℕ) → nat_lt r 32768 ≡ true → r < 32768
is_less r h = grind (arith, nat_tests)

is_most : (r : ℕ) → nat_lt r 32768 ≡ false → 32768 ≤ r
is_most r h = grind (arith, nat_tests)

is_half : (r : ℕ) (even : Bool) → ((r == 32768) && even) ≡ true → r ≡ 32768
is_half r even h = grind (arith, nat_tests)

near : (x : ℕ) → IsNear x (nearest_even (x / 65536) (x % 65536) 32768)
near x =
    let whole : 65536 * (x / 65536) + x % 65536 ≡ x = omega arith in
    let small : x % 65536 < 65536 = omega arith in
    let n : IsNear (65536 * (x / 65536) + x % 65536) (nearest_even (x / 65536) (x % 65536) 32768) = near_by (nat_lt (x % 65536) 32768) ((x % 65536 == 32768) && (x / 65536 % 2 == 0)) (x / 65536) (x % 65536) (is_less (x % 65536)) (is_most (x % 65536)) (is_half (x % 65536) (x / 65536 % 2 == 0)) small in
    record { low = let l = n.low in omega arith; high = let l = n.high in omega arith }

-- ---- with fewer than five decimals no other number rounds back than the nearest

only_0 : (n o m : ℕ) → IsNear (n * 1) m → (o * 131072 + 1) / 2 ≡ n → o ≡ m
only_0 n o m f h = let l = f.low in let g = f.high in omega arith

only_1 : (n o m : ℕ) → IsNear (n * 10) m → (o * 131072 + 10) / 20 ≡ n → o ≡ m
only_1 n o m f h = let l = f.low in let g = f.high in omega arith

only_2 : (n o m : ℕ) → IsNear (n * 100) m → (o * 131072 + 100) / 200 ≡ n → o ≡ m
only_2 n o m f h = let l = f.low in let g = f.high in omega arith

only_3 : (n o m : ℕ) → IsNear (n * 1000) m → (o * 131072 + 1000) / 2000 ≡ n → o ≡ m
only_3 n o m f h = let l = f.low in let g = f.high in omega arith

only_4 : (n o m : ℕ) → IsNear (n * 10000) m → (o * 131072 + 10000) / 20000 ≡ n → o ≡ m
only_4 n o m f h = let l = f.low in let g = f.high in omega arith

-- and with five decimals the nearest does
five : (n m : ℕ) → IsNear (n * 100000) m → (m * 131072 + 100000) / 200000 ≡ n
five n m f = let l = f.low in let g = f.high in omega arith

-- ---- the fewest decimals

abbrev Fails : ℕ → ℕ → Type 0
Fails n j = (o : ℕ) → back j o ≢ n

fails_by : (n k m : ℕ) → ((o : ℕ) → back k o ≡ n → o ≡ m) → (back k m == n) ≡ false → Fails n k
fails_by n k m only f o h =
    let is : back k m ≡ n = ap (λ (x : ℕ). back k x) (sym (only o h)) ∙ h in
    let t = eq-eqb (back k m) n is in
    cc

fails_0 : (n : ℕ) → rounds_back 0 n ≡ false → Fails n 0
unfolding back rounded
fails_0 n = fails_by n 0 (rounded 0 n) (λ o h. only_0 n o (rounded 0 n) (near (n * 1)) h)

fails_1 : (n : ℕ) → rounds_back 1 n ≡ false → Fails n 1
unfolding back rounded
fails_1 n = fails_by n 1 (rounded 1 n) (λ o h. only_1 n o (rounded 1 n) (near (n * 10)) h)

fails_2 : (n : ℕ) → rounds_back 2 n ≡ false → Fails n 2
unfolding back rounded
fails_2 n = fails_by n 2 (rounded 2 n) (λ o h. only_2 n o (rounded 2 n) (near (n * 100)) h)

fails_3 : (n : ℕ) → rounds_back 3 n ≡ false → Fails n 3
unfolding back rounded
fails_3 n = fails_by n 3 (rounded 3 n) (λ o h. only_3 n o (rounded 3 n) (near (n * 1000)) h)

fails_4 : (n : ℕ) → rounds_back 4 n ≡ false → Fails n 4
unfolding back rounded
fails_4 n = fails_by n 4 (rounded 4 n) (λ o h. only_4 n o (rounded 4 n) (near (n * 10000)) h)

five_back : (n : ℕ) → back 5 (rounded 5 n) ≡ n
unfolding back rounded
five_back n = five n (rounded 5 n) (near (n * 100000))

-- ---- by the tests, the last one first

is_back : (n k : ℕ) → rounds_back k n ≡ true → back k (rounded k n) ≡ n
is_back n k h = grind (arith, nat_tests)

shortest_of : (n k : ℕ) → back k (rounded k n) ≡ n → ((j : ℕ) → j < k → Fails n j) → IsShortest n k (rounded k n)
shortest_of n k b s = record { rounds = b; shortest = λ j o l. s j l o }

from_4 : (n : ℕ) (b : Bool) → rounds_back 4 n ≡ b → ((j : ℕ) → j < 4 → Fails n j) → IsShortest n (if b then 4 else 5) (rounded (if b then 4 else 5) n)
from_4 n true h s = shortest_of n 4 (is_back n 4 h) s
from_4 n false h s = shortest_of n 5 (five_back n) (below_more (Fails n) 4 s (fails_4 n h))

abbrev rest_4 : ℕ → ℕ
rest_4 n = if rounds_back 4 n then 4 else 5

from_3 : (n : ℕ) (b : Bool) → rounds_back 3 n ≡ b → ((j : ℕ) → j < 3 → Fails n j) → IsShortest n (if b then 3 else rest_4 n) (rounded (if b then 3 else rest_4 n) n)
from_3 n true h s = shortest_of n 3 (is_back n 3 h) s
from_3 n false h s = from_4 n (rounds_back 4 n) refl (below_more (Fails n) 3 s (fails_3 n h))

abbrev rest_3 : ℕ → ℕ
rest_3 n = if rounds_back 3 n then 3 else rest_4 n

from_2 : (n : ℕ) (b : Bool) → rounds_back 2 n ≡ b → ((j : ℕ) → j < 2 → Fails n j) → IsShortest n (if b then 2 else rest_3 n) (rounded (if b then 2 else rest_3 n) n)
from_2 n true h s = shortest_of n 2 (is_back n 2 h) s
from_2 n false h s = from_3 n (rounds_back 3 n) refl (below_more (Fails n) 2 s (fails_2 n h))

abbrev rest_2 : ℕ → ℕ
rest_2 n = if rounds_back 2 n then 2 else rest_3 n

from_1 : (n : ℕ) (b : Bool) → rounds_back 1 n ≡ b → ((j : ℕ) → j < 1 → Fails n j) → IsShortest n (if b then 1 else rest_2 n) (rounded (if b then 1 else rest_2 n) n)
from_1 n true h s = shortest_of n 1 (is_back n 1 h) s
from_1 n false h s = from_2 n (rounds_back 2 n) refl (below_more (Fails n) 1 s (fails_1 n h))

abbrev rest_1 : ℕ → ℕ
rest_1 n = if rounds_back 1 n then 1 else rest_2 n

from_0 : (n : ℕ) (b : Bool) → rounds_back 0 n ≡ b → IsShortest n (if b then 0 else rest_1 n) (rounded (if b then 0 else rest_1 n) n)
from_0 n true h = shortest_of n 0 (is_back n 0 h) (below_none (Fails n))
from_0 n false h = from_1 n (rounds_back 1 n) refl (below_more (Fails n) 0 (below_none (Fails n)) (fails_0 n h))

pub shortest : ShortestIsTaken
unfolding decimals
shortest n = from_0 n (rounds_back 0 n) refl
