-- A component that is placed, in two parts.
use Rattle.std.proofs.Common.{◌≡◌, ℕ, List, [], ◌∷◌, ℤ, Some, None, Result, Ok, Err, map, refl, sym, ap, ◌∙◌}
use Rattle.std.specs.Prelude.{zip}
use Rattle.subsetter_base.specs.Bytes.{◌>>=◌}
use Rattle.subsetter_base.specs.declared.error.Error.{Error}
use Rattle.subsetter_instance.specs.declared.glyphs.components.Component.{Component}
use Rattle.subsetter_instance.specs.declared.glyphs.components.Matrix.{Matrix}
use Rattle.subsetter_instance.specs.Glyphs.Unfolded.{Unfolded, is_scaled, joined_moved, joined_or_fault, moved_part, in_range_or_fault, placed, shift_by, swapped, transformed_x, transformed_xs, transformed_y, transformed_ys, with_part, with_points}

in_turn : (r : Result (ℤ × ℤ) Error) (part : Unfolded) (xs ys : List ℤ) (k : Unfolded → Result (Unfolded × ℕ) Error)
    → ((r >>= λ by. Ok (moved_part part by.0 by.1 xs ys)) >>= k) ≡ (r >>= λ by. k (moved_part part by.0 by.1 xs ys))
in_turn (Ok by) part xs ys k = refl
in_turn (Err e) part xs ys k = refl

by_points : (c : Component) (x y : ℤ) (before part : Unfolded) (steps : ℕ) → with_part c x y before part steps ≡ with_points c x y before part (transformed_xs c.matrix part.xs part.ys) (transformed_ys c.matrix part.xs part.ys) steps
unfolding with_part placed with_points joined_moved
by_points c x y before part steps =
    in_turn (shift_by c.arguments (is_scaled c.flags c.matrix) x y before (transformed_xs c.matrix part.xs part.ys) (transformed_ys c.matrix part.xs part.ys)) part (transformed_xs c.matrix part.xs part.ys) (transformed_ys c.matrix part.xs part.ys) (λ p. in_range_or_fault p steps >>= λ near. joined_or_fault before near.0 near.1)

-- without a matrix
pub plain_part : (c : Component) (x y : ℤ) (before part : Unfolded) (steps : ℕ) → c.matrix ≡ None → with_part c x y before part steps ≡ with_points c x y before part part.xs part.ys steps
plain_part c x y before part steps e = by_points c x y before part steps ∙ ap (λ m. with_points c x y before part (transformed_xs m part.xs part.ys) (transformed_ys m part.xs part.ys) steps) e

-- y is x of the matrix with its rows swapped
swapped_rows : (m : Matrix) (ps : List (ℤ × ℤ)) → map (transformed_y m) ps ≡ map (transformed_x (swapped m)) ps
swapped_rows m [] = refl
swapped_rows m (p ∷ ps) = ap (λ (l : List ℤ). transformed_y m p ∷ l) (swapped_rows m ps)

-- and with one, n with its rows swapped
pub turned_part : (c : Component) (m n : Matrix) (x y : ℤ) (before part : Unfolded) (steps : ℕ) → c.matrix ≡ Some m → n ≡ swapped m → with_part c x y before part steps ≡ with_points c x y before part (map (transformed_x m) (zip part.xs part.ys)) (map (transformed_x n) (zip part.xs part.ys)) steps
turned_part c m n x y before part steps e s =
    let rows : map (transformed_y m) (zip part.xs part.ys) ≡ map (transformed_x n) (zip part.xs part.ys) = swapped_rows m (zip part.xs part.ys) ∙ ap (λ (r : Matrix). map (transformed_x r) (zip part.xs part.ys)) (sym s) in
    by_points c x y before part steps ∙ ap (λ m. with_points c x y before part (transformed_xs m part.xs part.ys) (transformed_ys m part.xs part.ys) steps) e
    ∙ ap (λ (l : List ℤ). with_points c x y before part (map (transformed_x m) (zip part.xs part.ys)) l steps) rows
