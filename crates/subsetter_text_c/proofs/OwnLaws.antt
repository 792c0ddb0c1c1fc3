-- Own glyphs that C has are read back.
use Rattle.std.proofs.Common.{◌≡◌, ℕ, ◌+◌, ◌-◌, List, [], ◌∷◌, ◌++◌, length, map, take, drop, refl, sym, ap, ◌∙◌, arith}
use Rattle.std.proofs.lemmas.List.{map-append}
use Rattle.pdf_figures.specs.declared.ink.OwnInk.{OwnInk}
use Rattle.pdf_figures.specs.declared.ink.Placed.{Placed}
use Rattle.pdf_figures.specs.Figures.{Ink, own}
use Rattle.pdf_figures.specs.View.{drawn_of, inks_of}
use Rattle.subsetter_text_c.specs.Own.{inks_in, own_in, owns_of, part_of, parts_of, place_in}

placed_again : (ps : List Placed) → map place_in (map part_of ps) ≡ ps
placed_again [] = refl
placed_again (p ∷ ps) = ap (λ (l : List Placed). p ∷ l) (placed_again ps)

-- the parts of an own glyph are the first ones
first_are : (ps rest : List Placed) → take (length ps) (ps ++ rest) ≡ ps
first_are [] [] = refl
first_are [] (r ∷ rest) = refl
first_are (p ∷ ps) rest = ap (λ (l : List Placed). p ∷ l) (first_are ps rest)

rest_are : (ps rest : List Placed) → drop (length ps) (ps ++ rest) ≡ rest
rest_are [] [] = refl
rest_are [] (r ∷ rest) = refl
rest_are (p ∷ ps) rest = rest_are ps rest

again_after : (before : ℕ) (os : List OwnInk) → own_in before (owns_of before os) (map place_in (parts_of os)) ≡ inks_of os
again_after before [] = refl
again_after before (o ∷ os) =
    let ps : List Placed = o.parts.items in
    let rest : List Placed = map place_in (parts_of os) in
    let size : (before + length ps) - before ≡ length ps = omega arith in
    let all : map place_in (map part_of ps ++ parts_of os) ≡ ps ++ rest = map-append place_in (map part_of ps) (parts_of os) ∙ ap (λ (l : List Placed). l ++ rest) (placed_again ps) in
    let after : ℕ → List Placed → List Ink = λ n l. own (map drawn_of (take n l)) o.advance ∷ own_in (before + length ps) (owns_of (before + length ps) os) (drop n l) in
    ap (after ((before + length ps) - before)) all
    ∙ ap (λ (n : ℕ). after n (ps ++ rest)) size
    ∙ ap (λ (l : List Placed). own (map drawn_of l) o.advance ∷ own_in (before + length ps) (owns_of (before + length ps) os) (drop (length ps) (ps ++ rest))) (first_are ps rest)
    ∙ ap (λ (l : List Placed). own (map drawn_of ps) o.advance ∷ own_in (before + length ps) (owns_of (before + length ps) os) l) (rest_are ps rest)
    ∙ ap (λ (l : List Ink). own (map drawn_of ps) o.advance ∷ l) (again_after (before + length ps) os)

pub own_read_back : (os : List OwnInk) → inks_in (owns_of 0 os) (parts_of os) ≡ inks_of os
own_read_back os = again_after 0 os
