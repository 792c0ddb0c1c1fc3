-- One tuple after the other.
use Rattle.std.proofs.Common.{◌≡◌, ℕ, suc, ◌+◌, ◌≤◌, List, [], ◌∷◌, ◌++◌, length, get_or, take, drop, Option, ℤ, pos, ◌+ℤ◌, unsigned_abs, refl, ap, ◌∙◌, arith}
use Rattle.std.specs.List.{zip}
use Rattle.std.proofs.lemmas.Int.{ints}
use Rattle.std.proofs.lemmas.List.{length-map, take_at}
use Rattle.subsetter_variation.specs.declared.glyphs.inference.Point.{Point}
use Rattle.subsetter_variation.specs.Glyphs.Varied.{points, moved_in}

pub length_zip : {A B : Type 0} (xs : List A) (ys : List B) → length ys ≡ length xs → length (zip xs ys) ≡ length xs
length_zip [] ys e = refl
length_zip (x ∷ xs) [] e = cc
length_zip (x ∷ xs) (y ∷ ys) e = ap suc (length_zip xs ys (omega arith))

pub length_points : (coordinates : List ℤ) (deltas : List (Option ℤ)) → length deltas ≡ length coordinates → length (points coordinates deltas) ≡ length coordinates
length_points coordinates deltas e = length-map (zip coordinates deltas) _ ∙ length_zip coordinates deltas e

-- what a vector holds after all of it was written
pub all_written : {X : Type 0} (n : ℕ) (old new : List X) → length new ≡ n → take n (new ++ drop (length new) old) ≡ new
all_written n old new e = take_at new (drop (length new) old) n e

-- a sum of one more move is within the bound and that of the move
pub one_more : (a b c : ℤ) (m n : ℕ) → c ≡ a +ℤ b → unsigned_abs a ≤ m → unsigned_abs b ≤ n → unsigned_abs c ≤ m + n
one_more a b c m n e p q = omega (arith, ints)

-- the moves of a call that was handed the same points and the same scalar under other names
pub same_moves : (sums now : List ℤ) (ps qs : List Point) (ends : List ℕ) (k : ℕ) (s t r : ℤ) → now ≡ sums → ps ≡ qs → s ≡ t → r ≡ get_or now k (pos 0) +ℤ moved_in ps 0 ends k s → r ≡ get_or sums k (pos 0) +ℤ moved_in qs 0 ends k t
same_moves sums now ps qs ends k s t r a b e h = h ∙ ap (λ xs. get_or xs k (pos 0) +ℤ moved_in ps 0 ends k s) a ∙ ap (λ xs. get_or sums k (pos 0) +ℤ moved_in xs 0 ends k s) b ∙ ap (λ z. get_or sums k (pos 0) +ℤ moved_in qs 0 ends k z) e
