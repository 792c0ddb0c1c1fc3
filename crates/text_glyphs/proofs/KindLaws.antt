-- The bounds of default ignorables ascend.
use Rattle.std.proofs.Common.{◌≡◌, ℕ, zero, suc, ◌<◌, ◌≤◌, Bool, true, false, ◌&&◌, nat_le, List, [], ◌∷◌, length, get_or, refl, sym, arith, leb-true}
use Rattle.std.specs.List.Sorted.{IsNonDecreasing, IsPartitionPoint}
use Rattle.std.specs.List.{prefix_len}
use Rattle.std.proofs.lemmas.List.Sums.{prefix_len_is}
use Rattle.text_glyphs.specs.declared.tables.TheConstants.{BOUNDS}

both : (a b : Bool) → a && b ≡ true → (a ≡ true) × (b ≡ true)
both true b e = (refl, e)
both false b e = absurd cc

abbrev pub ascends : ℕ → List ℕ → Bool
ascends low [] = true
ascends low (x ∷ xs) = nat_le low x && ascends x xs

above : (low : ℕ) (xs : List ℕ) (i : ℕ) (d : ℕ) → ascends low xs ≡ true → i < length xs → low ≤ get_or xs i d
above low [] i d e l = absurd (omega arith)
above low (x ∷ xs) zero d e l = leb-true low x (both (nat_le low x) (ascends x xs) e).0
above low (x ∷ xs) (suc i) d e l =
    let first : low ≤ x = leb-true low x (both (nat_le low x) (ascends x xs) e).0 in
    let later : x ≤ get_or xs i d = above x xs i d (both (nat_le low x) (ascends x xs) e).1 (omega arith) in
    omega arith

pub rises : (low : ℕ) (xs : List ℕ) → ascends low xs ≡ true → IsNonDecreasing xs
rises low [] e i j d o l = absurd (omega arith)
rises low (x ∷ xs) e zero zero d o l = omega arith
rises low (x ∷ xs) e zero (suc j) d o l = above x xs j d (both (nat_le low x) (ascends x xs) e).1 (omega arith)
rises low (x ∷ xs) e (suc i) zero d o l = absurd (omega arith)
rises low (x ∷ xs) e (suc i) (suc j) d o l = rises x xs (both (nat_le low x) (ascends x xs) e).1 i j d (omega arith) (omega arith)

bounds_ascend : ascends 0 BOUNDS ≡ true
bounds_ascend = refl

pub bounds_rise : IsNonDecreasing BOUNDS
bounds_rise = rises 0 BOUNDS bounds_ascend

-- where the first elements pass a test and the others don't, the first are the longest such beginning
pub point_is_prefix : (p : ℕ → Bool) (xs : List ℕ) (n : ℕ) → n ≤ length xs → IsPartitionPoint (λ y. p y ≡ true) (λ y. p y ≡ false) xs n → n ≡ prefix_len p xs
point_is_prefix p xs n l (passes, fails) = sym (prefix_len_is p xs n 0 l (λ k h. passes k 0 (omega arith) h) (λ h. fails n 0 (omega arith) h))
