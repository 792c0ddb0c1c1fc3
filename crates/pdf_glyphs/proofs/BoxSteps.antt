-- The least box around the first glyphs, found from the last of them on.
use Rattle.std.proofs.Common.{◌≡◌, ℕ, suc, ◌+◌, ◌-◌, ◌<◌, None, ap, ◌∙◌, ℤ, arith}
use Rattle.pdf_values.specs.declared.looks.bounds.GlyphBox.{GlyphBox}
use Rattle.pdf_glyphs.specs.Boxes.{Outlines, boxes_from, glyph_box, joined}

abbrev pub box : ℤ → ℤ → ℤ → ℤ → GlyphBox
box a b c d = record { x_min = a; y_min = b; x_max = c; y_max = d }

-- boxes whose edges are equal
pub box_is : (a a' b b' c c' d d' : ℤ) → a ≡ a' → b ≡ b' → c ≡ c' → d ≡ d' → box a b c d ≡ box a' b' c' d'
box_is a a' b b' c c' d d' p q r s = ap (λ (v : ℤ). box v b c d) p ∙ ap (λ (v : ℤ). box a' v c d) q ∙ ap (λ (v : ℤ). box a' b' v d) r ∙ ap (box a' b' c') s

-- an edge, of numbers that are passed as these
pub edge_is : (f : ℤ → ℤ → ℤ) (a b a' b' r r' : ℤ) → r' ≡ r → r ≡ f a' b' → a' ≡ a → b' ≡ b → r' ≡ f a b
edge_is f a b a' b' r r' passed is first second = passed ∙ is ∙ ap (λ (v : ℤ). f v b') first ∙ ap (f a) second

-- none, from after the last glyph on
pub box_begun : (t : Outlines) (count : ℕ) → boxes_from t count (count - count) ≡ None
box_begun t count = let none : count - count ≡ 0 = omega arith in ap (boxes_from t count) none

-- from one glyph earlier on
pub box_more : (t : Outlines) (g count : ℕ) → g < count → boxes_from t g (count - g) ≡ joined (glyph_box t g) (boxes_from t (g + 1) (count - (g + 1)))
box_more t g count lt = let one : count - g ≡ suc (count - (g + 1)) = omega (arith, lt) in ap (boxes_from t g) one

-- from glyph 0 on
pub box_done : (t : Outlines) (left count : ℕ) → left ≡ 0 → boxes_from t left (count - left) ≡ boxes_from t 0 count
box_done t left count none = let all : count - left ≡ count = omega (arith, none) in ap (boxes_from t left) all ∙ ap (λ (k : ℕ). boxes_from t k count) none
