-- Steps of the loops over the lines of a CMap.
use Rattle.std.proofs.Common.{◌≡◌, ℕ, suc, zero, ◌-◌, ◌<◌, ◌≤◌, List, [], ◌∷◌, ◌++◌, length, map, take, drop, decimal, refl, sym, ap, ◌∙◌, append_assoc, ◌⊎◌, inl, inr, arith, length-drop}
use Rattle.std.specs.Prelude.{codes, min}
use Rattle.std.proofs.lemmas.List.{length-map, take-map, drop-map, take_all, drop_all}
use Rattle.pdf_text.specs.Cmaps.Blocks.{Row, block, blocks, rows_text}
use Rattle.pdf_text.proofs.MetricsLaws.WidthLaws.Read.{below_or_not}
use Rattle.pdf_text.proofs.Written.{four_written}

-- a view of a view
pub twice : {X Y Z : Type 0} (f : X → Y) (g : Y → Z) (xs : List X) → map g (map f xs) ≡ map (λ x. g (f x)) xs
twice f g [] = refl
twice f g (x ∷ xs) = ap (λ ys. g (f x) ∷ ys) (twice f g xs)

regrouped : (a k b : List ℕ) → a ++ ((codes " begin" ++ (k ++ codes "\n")) ++ (b ++ (codes "end" ++ (k ++ codes "\n")))) ≡ a ++ (codes " begin" ++ (k ++ (codes "\n" ++ (b ++ (codes "end" ++ (k ++ codes "\n"))))))
regrouped a k b = simp append_assoc

pub block_written : {X : Type 0} (g : X → Row) (kind : List ℕ) (ms : List X) (w w1 w2 w3 w4 : List ℕ) → w1 ≡ w ++ decimal (length ms) → w2 ≡ w1 ++ (codes " begin" ++ (kind ++ codes "\n")) → w3 ≡ w2 ++ rows_text (map g ms) → w4 ≡ w3 ++ (codes "end" ++ (kind ++ codes "\n")) → w4 ≡ w ++ block kind (map g ms)
block_written g kind ms w w1 w2 w3 w4 f h i j =
    four_written w (decimal (length (map g ms))) (codes " begin" ++ (kind ++ codes "\n")) (rows_text (map g ms)) (codes "end" ++ (kind ++ codes "\n")) w1 w2 w3 w4
    (f ∙ ap (λ n. w ++ decimal n) (sym (length-map ms g))) h i j
    ∙ ap (λ (l : List ℕ). w ++ l) (regrouped (decimal (length (map g ms))) kind (rows_text (map g ms)))

-- ---- blocks

enough : (kind : List ℕ) (m n : ℕ) (rs : List Row) → length rs ≤ m → length rs ≤ n → blocks kind m rs ≡ blocks kind n rs
enough kind zero zero rs h k = refl
enough kind zero (suc n) [] h k = refl
enough kind zero (suc n) (r ∷ rs) h k = absurd (omega arith)
enough kind (suc m) zero [] h k = refl
enough kind (suc m) zero (r ∷ rs) h k = absurd (omega arith)
enough kind (suc m) (suc n) [] h k = refl
enough kind (suc m) (suc n) (r ∷ rs) h k =
    let size : length (drop 100 (r ∷ rs)) ≡ length (r ∷ rs) - 100 = length-drop 100 (r ∷ rs) in
    ap (λ (t : List ℕ). block kind (take 100 (r ∷ rs)) ++ t) (enough kind m n (drop 100 (r ∷ rs)) (omega arith) (omega arith))

stepped : {X : Type 0} (g : X → Row) (kind : List ℕ) (m : X) (ms : List X) → blocks kind (length (m ∷ ms)) (map g (m ∷ ms)) ≡ block kind (map g (take 100 (m ∷ ms))) ++ blocks kind (length (drop 100 (m ∷ ms))) (map g (drop 100 (m ∷ ms)))
stepped g kind m ms =
    let size : length (drop 100 (m ∷ ms)) ≡ length (m ∷ ms) - 100 = length-drop 100 (m ∷ ms) in
    let equal : length (map g (drop 100 (m ∷ ms))) ≡ length (drop 100 (m ∷ ms)) = length-map (drop 100 (m ∷ ms)) g in
    ap (λ (l : List Row). block kind l ++ blocks kind (length ms) (drop 100 (map g (m ∷ ms)))) (take-map g 100 (m ∷ ms))
    ∙ ap (λ (t : List ℕ). block kind (map g (take 100 (m ∷ ms))) ++ t)
    (ap (λ (l : List Row). blocks kind (length ms) l) (drop-map g 100 (m ∷ ms))
    ∙ enough kind (length ms) (length (drop 100 (m ∷ ms))) (map g (drop 100 (m ∷ ms))) (omega arith) (omega arith))

again : {X : Type 0} (g : X → Row) (kind : List ℕ) (w w1 : List ℕ) (ms now later : List X) (all : List ℕ) → blocks kind (length ms) (map g ms) ≡ block kind (map g now) ++ blocks kind (length later) (map g later) → w ++ blocks kind (length ms) (map g ms) ≡ all → w1 ≡ w ++ block kind (map g now) → w1 ++ blocks kind (length later) (map g later) ≡ all
again g kind w w1 ms now later all s e f =
    ap (λ (l : List ℕ). l ++ blocks kind (length later) (map g later)) f ∙ append_assoc w (block kind (map g now)) (blocks kind (length later) (map g later))
    ∙ ap (λ (l : List ℕ). w ++ l) (sym s) ∙ e

-- one block more
block_more : {X : Type 0} (g : X → Row) (kind : List ℕ) (w w1 : List ℕ) (ms now later : List X) (all : List ℕ) → 0 < length ms → now ≡ take 100 ms → later ≡ drop 100 ms → w ++ blocks kind (length ms) (map g ms) ≡ all → w1 ≡ w ++ block kind (map g now) → w1 ++ blocks kind (length later) (map g later) ≡ all
block_more g kind w w1 [] now later all l p q e f = absurd (omega arith)
block_more {X} g kind w w1 (m ∷ ms) now later all l p q e f =
    again g kind w w1 (m ∷ ms) now later all
    (stepped g kind m ms ∙ sym (ap (λ (k : List X). block kind (map g k) ++ blocks kind (length (drop 100 (m ∷ ms))) (map g (drop 100 (m ∷ ms)))) p)
    ∙ ap (λ (k : List X). block kind (map g now) ++ blocks kind (length k) (map g k)) (sym q)) e f

-- a block's lines, as a range of them
first_lines : {X : Type 0} (n : ℕ) (ms : List X) → n ≡ min (length ms) 100 → (length ms < 100) ⊎ (100 ≤ length ms) → take n ms ≡ take 100 ms
first_lines n ms e (inl l) = take_all n ms (omega arith) ∙ sym (take_all 100 ms (omega arith))
first_lines n ms e (inr l) = let equal : n ≡ 100 = omega arith in ap (λ k. take k ms) equal

later_lines : {X : Type 0} (n : ℕ) (ms : List X) → n ≡ min (length ms) 100 → (length ms < 100) ⊎ (100 ≤ length ms) → drop n ms ≡ drop 100 ms
later_lines n ms e (inl l) = drop_all n ms (omega arith) ∙ sym (drop_all 100 ms (omega arith))
later_lines n ms e (inr l) = let equal : n ≡ 100 = omega arith in ap (λ k. drop k ms) equal

to_the_end : {X : Type 0} (n : ℕ) (ms : List X) → take (length ms - n) (drop n ms) ≡ drop n ms
to_the_end n ms =
    let size : length (drop n ms) ≡ length ms - n = length-drop n ms in
    take_all (length ms - n) (drop n ms) (omega arith)

pub block_cut : {X : Type 0} (g : X → Row) (kind : List ℕ) (w w1 : List ℕ) (n : ℕ) (ms : List X) (all : List ℕ) → 0 < length ms → n ≡ min (length ms) 100 → w ++ blocks kind (length ms) (map g ms) ≡ all → w1 ≡ w ++ block kind (map g (take n ms)) → w1 ++ blocks kind (length (take (length ms - n) (drop n ms))) (map g (take (length ms - n) (drop n ms))) ≡ all
block_cut g kind w w1 n ms all l size e f =
    block_more g kind w w1 ms (take n ms) (take (length ms - n) (drop n ms)) all l (first_lines n ms size (below_or_not (length ms) 100)) (to_the_end n ms ∙ later_lines n ms size (below_or_not (length ms) 100)) e f
