-- Which glyphs have ink: those whose outline isn't empty.
use Rattle.std.specs.Prelude.{ℕ, zero, suc, ◌+◌, Bool, List, [], ◌∷◌, codes, Option}
use Rattle.glyph_kinds.specs.Outlines.{has_outline, outlines_by}

-- what a function gives for n numbers, from g on
abbrev pub each_from : {A : Type 0} → (ℕ → A) → ℕ → ℕ → List A
each_from f g zero = []
each_from f g (suc n) = f g ∷ each_from f (g + 1) n

-- of the first `count` glyphs, whether they have an outline that isn't empty, as the kinds of pictures have it
abbrev pub inked_in : (List ℕ → Option (List ℕ)) → ℕ → List Bool
inked_in find count = each_from (has_outline (outlines_by (find (codes "glyf")) find)) 0 count
