-- The ends of contours, also with those of the phantom points.
use Rattle.std.proofs.Common.{◌≡◌, ℕ, ℤ, ◌+◌, ◌-◌, ◌^◌, ◌<◌, ◌≤◌, true, false, List, [], ◌∷◌, ◌++◌, length, take, map, Some, Ok, Err, pos, refl, ap, sym, ◌∙◌, arith}
use Rattle.std.specs.Prelude.{nat_le, All, Bool, if◌then◌else◌}
use Rattle.std.proofs.lemmas.Bool.{eqb-true, leb-true}
use Rattle.std.proofs.lemmas.List.{length-take, length-map, length-append}
use Rattle.std.proofs.lemmas.List.Elements.{All-nil, All-cons}
use Rattle.subsetter_base.specs.declared.error.Error.TheVariants.{OverflowError}
use Rattle.std.specs.List.{range_with_len}
use Rattle.std.proofs.lemmas.List.FromFn.{map-range_with_len_more}
use Rattle.subsetter_points.specs.Simple.{are_ends, parts, points, xs_of, ys_of}
use Rattle.subsetter_base.specs.Bytes.{has_flag}
use Rattle.subsetter_points.proofs.Sound.{points_length}
use Rattle.subsetter_instance.specs.Source.{Source}
use Rattle.subsetter_sfnt.specs.declared.fields.hmtx.LongHorMetric.{LongHorMetric}
use Rattle.subsetter_points.proofs.Back.{both, are_ends_count}
use Rattle.subsetter_variation.specs.Glyphs.Varied.{AreEnds}
use Rattle.subsetter_variation.specs.Glyphs.Movement.{IsOutline, spent}
use Rattle.subsetter_instance.specs.Glyphs.Unfolded.{unfolded_by_flags, unfolded_simple, with_phantoms}

-- each is the number of a point
pub ends_below : (from : ℕ) (es : List ℕ) (n : ℕ) → are_ends from es n ≡ true → All (λ e. e < n) es
unfolding are_ends
ends_below from [] n e = All-nil (λ e. e < n)
ends_below from (end ∷ es) n e =
    let a = both (nat_le from end) (are_ends (end + 1) es n) e in
    let more : end + 1 ≤ n = (are_ends_count (end + 1) es n a.1).0 in
    let less : end < n = omega arith in
    All-cons (λ e. e < n) end es less (ends_below (end + 1) es n a.1)

-- four phantom points after n points, each a contour of its own
pub phantom_ends : (from : ℕ) (es : List ℕ) (n : ℕ) → are_ends from es n ≡ true → AreEnds from (es ++ n ∷ (n + 1) ∷ (n + 2) ∷ (n + 3) ∷ []) (n + 4)
unfolding are_ends
phantom_ends from [] n e =
    let same : from ≡ n = eqb-true from n e in
    (omega arith, omega arith, (omega arith, omega arith, (omega arith, omega arith, (omega arith, omega arith, omega arith))))
phantom_ends from (end ∷ es) n e =
    let a = both (nat_le from end) (are_ends (end + 1) es n) e in
    let more : end + 1 ≤ n = (are_ends_count (end + 1) es n a.1).0 in
    (leb-true from end a.0, omega arith, phantom_ends (end + 1) es n a.1)

-- as many coordinates without the phantom points as points
pub without_phantoms : {A B : Type 0} (n : ℕ) (xs : List A) (ps : List B) (on : List Bool) (f : B → Bool) → n ≡ length ps → length xs ≡ length ps + 4 → on ≡ map f ps → length (take n xs) ≡ length on
without_phantoms n xs ps on f s e h = rw (h, length-map ps f) (simp length-take (omega arith))

-- an outline with its phantom points
pub phantom_outline : (ends : List ℕ) (xs ys : List ℤ) → are_ends 0 ends (length xs) ≡ true → length ys ≡ length xs → length xs + 4 < 2 ^ 32 → IsOutline (with_phantoms ends xs ys)
phantom_outline ends xs ys e many h =
    let x : length (xs ++ pos 0 ∷ pos 0 ∷ pos 0 ∷ pos 0 ∷ []) ≡ length xs + 4 = length-append xs _ in
    let y : length (ys ++ pos 0 ∷ pos 0 ∷ pos 0 ∷ pos 0 ∷ []) ≡ length xs + 4 = length-append ys _ ∙ ap (λ n. n + 4) many in
    (y ∙ sym x, omega arith, rw x (phantom_ends 0 ends (length xs) e))

-- points of flags and coordinates have these coordinates, and are on the curve where the flag says it
pub xs_of_points : (fs : List ℕ) (us vs : List ℤ) → length us ≡ length fs → length vs ≡ length fs → xs_of (points fs us vs) ≡ us
unfolding points
xs_of_points [] [] vs a b = refl
xs_of_points [] (u ∷ us) vs a b = absurd (omega arith)
xs_of_points (f ∷ fs) [] vs a b = absurd (omega arith)
xs_of_points (f ∷ fs) (u ∷ us) [] a b = absurd (omega arith)
xs_of_points (f ∷ fs) (u ∷ us) (v ∷ vs) a b = ap (λ l. u ∷ l) (xs_of_points fs us vs (omega arith) (omega arith))

pub ys_of_points : (fs : List ℕ) (us vs : List ℤ) → length us ≡ length fs → length vs ≡ length fs → ys_of (points fs us vs) ≡ vs
unfolding points
ys_of_points [] us [] a b = refl
ys_of_points [] us (v ∷ vs) a b = absurd (omega arith)
ys_of_points (f ∷ fs) [] vs a b = absurd (omega arith)
ys_of_points (f ∷ fs) (u ∷ us) [] a b = absurd (omega arith)
ys_of_points (f ∷ fs) (u ∷ us) (v ∷ vs) a b = ap (λ l. v ∷ l) (ys_of_points fs us vs (omega arith) (omega arith))

pub on_of_points : (fs : List ℕ) (us vs : List ℤ) → length us ≡ length fs → length vs ≡ length fs → map (λ p. p.on_curve) (points fs us vs) ≡ map (λ f. has_flag f 1) fs
unfolding points
on_of_points [] us vs a b = refl
on_of_points (f ∷ fs) [] vs a b = absurd (omega arith)
on_of_points (f ∷ fs) (u ∷ us) [] a b = absurd (omega arith)
on_of_points (f ∷ fs) (u ∷ us) (v ∷ vs) a b = ap (λ l. has_flag f 1 ∷ l) (on_of_points fs us vs (omega arith) (omega arith))

-- a simple glyph by its flags and coordinates
pub simple_by_flags : (s : Source) (at : List ℤ) (steps g : ℕ) (bytes : List ℕ) (m : LongHorMetric) (ends fs : List ℕ) (us vs : List ℤ) → Some (ends, points fs us vs) ≡ parts bytes → length us ≡ length fs → length vs ≡ length fs
    → unfolded_by_flags s at steps g bytes m ends fs us vs ≡ unfolded_simple s at steps g bytes m
unfolding unfolded_simple unfolded_by_flags
simple_by_flags s at steps g bytes m ends fs us vs e a b =
    let ps = points fs us vs in
    rw (sym e, points_length fs us vs a b, xs_of_points fs us vs a b, ys_of_points fs us vs a b, on_of_points fs us vs a b) refl

enough_by : (b : Bool) (n steps left : ℕ) → nat_le n steps ≡ b → Ok left ≡ (if b then Ok (steps - n) else Err OverflowError) → n ≤ steps
enough_by true n steps left b e = leb-true n steps b
enough_by false n steps left b e = absurd cc

-- as many steps were left as are spent
pub enough : (n steps left : ℕ) → Ok left ≡ spent n steps → n ≤ steps
enough n steps left e = enough_by (nat_le n steps) n steps left refl e

map_self : (xs : List ℕ) → map (λ x. x) xs ≡ xs
map_self [] = refl
map_self (x ∷ xs) = ap (λ l. x ∷ l) (map_self xs)

-- one more number
pub range_more : (k : ℕ) → range_with_len 0 (k + 1) ≡ range_with_len 0 k ++ k ∷ []
range_more k = sym (map_self (range_with_len 0 (k + 1))) ∙ map-range_with_len_more (λ x. x) 0 k k (omega arith) ∙ ap (λ l. l ++ k ∷ []) (map_self (range_with_len 0 k))
