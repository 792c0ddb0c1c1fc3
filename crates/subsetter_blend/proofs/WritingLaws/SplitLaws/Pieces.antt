-- The pieces of an operator, one after the other.
use Rattle.std.proofs.Common.{◌≡◌, ℕ, zero, suc, ◌+◌, ◌-◌, ◌*◌, ◌%◌, ◌<◌, ◌≤◌, ℤ, pos, ◌+ℤ◌, Bool, true, false, List, [], ◌∷◌, length, take, drop, refl, ap, ◌∙◌, arith, length-drop}
use Rattle.std.specs.Prelude.{◌==◌, ◌||◌, nat_le, if◌then◌else◌}
use Rattle.std.proofs.lemmas.Bool.{le-leb}
use Rattle.std.proofs.lemmas.Bool.Decides.{nat_tests}
use Rattle.std.proofs.lemmas.Int.{ints}
use Rattle.subsetter_cffdata.specs.declared.dicts.operator.OperatorType.{OperatorType}
use Rattle.subsetter_cffdata.specs.declared.dicts.operator.OperatorType.TheVariants.{OneByteOperator, TwoByteOperator}
use Rattle.subsetter_blend.specs.Hint.{is_hint}
use Rattle.subsetter_blend.specs.Writing.Split.{one_byte_cut, cut, moved_by, sum_before, front_of, rest_of, next_cut, pieces}
use Rattle.subsetter_blend.specs.Writing.Taking.{Event}

-- ---- how many operands a piece takes
pub record IsCut (k : ℕ) : Type 0 where
  pub low : 40 ≤ k
  pub high : k ≤ 47

if_cut : (b : Bool) (x y : ℕ) → IsCut x → IsCut y → IsCut (if b then x else y)
if_cut true x y p q = p
if_cut false x y p q = q

pub one_byte_is_cut : (b n : ℕ) → IsCut (one_byte_cut b n)
one_byte_is_cut b n =
    if_cut (b == 8 || b == 24) 42 _ (record { low = omega arith; high = omega arith })
    (if_cut (b == 25 || b == 30 || b == 31) 40 _ (record { low = omega arith; high = omega arith })
    (if_cut (b == 26 || b == 27) (n % 4 + 44) 46 (record { low = omega arith; high = omega arith }) (record { low = omega arith; high = omega arith })))

pub is_cut : (t : OperatorType) (n : ℕ) → IsCut (cut t n)
is_cut (OneByteOperator []) n = record { low = omega arith; high = omega arith }
is_cut (OneByteOperator (b ∷ [])) n = one_byte_is_cut b n
is_cut (OneByteOperator (c ∷ b ∷ bytes)) n = record { low = omega arith; high = omega arith }
is_cut (TwoByteOperator code) n = record { low = omega arith; high = omega arith }

-- ---- the first operand with a sum
pub length_moved : (s : ℤ) (vs : List ℤ) → length (moved_by s vs) ≡ length vs
length_moved s [] = refl
length_moved s (v ∷ vs) = refl

none_before : (v : ℤ) → pos 0 +ℤ v ≡ v
none_before v = omega (arith, ints)

pub moved_none : (vs : List ℤ) → moved_by (pos 0) vs ≡ vs
moved_none [] = refl
moved_none (v ∷ vs) = ap (λ (z : ℤ). z ∷ vs) (none_before v)

pub moved_drop : (k : ℕ) (s : ℤ) (vs : List ℤ) → 1 ≤ k → drop k (moved_by s vs) ≡ drop k vs
moved_drop zero s vs h = absurd (omega (arith, h))
moved_drop (suc k) s [] h = refl
moved_drop (suc k) s (v ∷ vs) h = refl

pub moved_take : (k : ℕ) (s : ℤ) (vs : List ℤ) → 1 ≤ k → take k (moved_by s vs) ≡ moved_by s (take k vs)
moved_take zero s vs h = absurd (omega (arith, h))
moved_take (suc k) s [] h = refl
moved_take (suc k) s (v ∷ vs) h = refl

pub length_rest : (k : ℕ) (e : Event) → length (rest_of k e).operands ≡ length e.operands - k
length_rest k e = length_moved (sum_before (is_hint e.operator.0) (take k e.operands)) (drop k e.operands) ∙ length-drop k e.operands

-- ---- enough pieces
few_left : (width n m k r : ℕ) → 40 ≤ k → r ≡ n - k → width + n ≤ 48 + 40 * suc m → 0 + r ≤ 48 + 40 * m
few_left width n m k r low e h = omega (arith, low, e, h)

pub refuel : (f g width : ℕ) (e : Event) → width + length e.operands ≤ 48 + 40 * f → width + length e.operands ≤ 48 + 40 * g → pieces f width e ≡ pieces g width e
unfolding pieces
refuel zero zero width e p q = refl
refuel zero (suc g) width e p q = let few : width + length e.operands ≤ 48 = omega (arith, p) in rw (le-leb (width + length e.operands) 48 few) refl
refuel (suc f) zero width e p q = let few : width + length e.operands ≤ 48 = omega (arith, q) in rw (le-leb (width + length e.operands) 48 few) refl
refuel (suc f) (suc g) width e p q =
    let k = next_cut e in
    let low = (is_cut e.operator.0 (length e.operands)).low in
    let n = length_rest k e in
    ap (λ (l : List Event). if nat_le (width + length e.operands) 48 then e ∷ [] else front_of k e ∷ l)
    (refuel f g 0 (rest_of k e) (few_left width (length e.operands) f k (length (rest_of k e).operands) low n p) (few_left width (length e.operands) g k (length (rest_of k e).operands) low n q))

too_many : {A : Type 0} (n : ℕ) (x y : A) → 48 < n → (if nat_le n 48 then x else y) ≡ y
too_many n x y h = grind (arith, nat_tests)

pub split_more : (e : Event) (width n : ℕ) → n ≡ length e.operands → width ≤ 1 → 48 < width + n → pieces n width e ≡ front_of (next_cut e) e ∷ pieces (n - next_cut e) 0 (rest_of (next_cut e) e)
unfolding pieces
split_more e width zero n w h = absurd (omega (arith, w, h))
split_more e width (suc m) n w h =
    let k = next_cut e in
    let low = (is_cut e.operator.0 (length e.operands)).low in
    let r = length_rest k e in
    let many : 48 < width + length e.operands = omega (arith, n, h) in
    too_many (width + length e.operands) (e ∷ []) (front_of k e ∷ pieces m 0 (rest_of k e)) many
    ∙ ap (λ (l : List Event). front_of k e ∷ l) (refuel m (suc m - k) 0 (rest_of k e) (omega (arith, n, r, low)) (omega (arith, n, r)))

pub split_last : (e : Event) (width n : ℕ) → width + length e.operands ≤ 48 → pieces n width e ≡ e ∷ []
unfolding pieces
split_last e width zero h = refl
split_last e width (suc m) h = rw (le-leb (width + length e.operands) 48 h) refl
