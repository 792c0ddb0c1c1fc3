-- Boxes by their edges.
use Rattle.std.proofs.Common.{◌≡◌, ap, ◌∙◌, ℤ}
use Rattle.subsetter_points.specs.declared.bounds.Bounds.{Bounds}

abbrev pub box : ℤ → ℤ → ℤ → ℤ → Bounds
box a b c d = record { x_min = a; y_min = b; x_max = c; y_max = d }

-- boxes whose edges are equal
pub box_is : (a a' b b' c c' d d' : ℤ) → a ≡ a' → b ≡ b' → c ≡ c' → d ≡ d' → box a b c d ≡ box a' b' c' d'
box_is a a' b b' c c' d d' p q r s = ap (λ (v : ℤ). box v b c d) p ∙ ap (λ (v : ℤ). box a' v c d) q ∙ ap (λ (v : ℤ). box a' b' v d) r ∙ ap (box a' b' c') s

-- an edge, of numbers that are passed as these
pub edge_is : (f : ℤ → ℤ → ℤ) (a b a' b' r r' : ℤ) → r' ≡ r → r ≡ f a' b' → a' ≡ a → b' ≡ b → r' ≡ f a b
edge_is f a b a' b' r r' passed is first second = passed ∙ is ∙ ap (λ (v : ℤ). f v b') first ∙ ap (f a) second
