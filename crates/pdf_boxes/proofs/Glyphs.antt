-- The least box around the first glyphs, found from the last of them on.
use Rattle.std.proofs.Common.{◌≡◌, ℕ, suc, ◌+◌, ◌-◌, ◌<◌, List, Option, None, ap, ◌∙◌, arith}
use Rattle.pdf_glyphs.specs.Boxes.{joined}
use Rattle.pdf_boxes.specs.Kept.{boxes_from, glyph_box}

-- none, from after the last glyph on
pub kept_begun : (entries : List (Option (List ℕ))) (count : ℕ) → boxes_from entries count (count - count) ≡ None
kept_begun entries count = let none : count - count ≡ 0 = omega arith in ap (boxes_from entries count) none

-- from one glyph earlier on
pub kept_more : (entries : List (Option (List ℕ))) (g count : ℕ) → g < count → boxes_from entries g (count - g) ≡ joined (glyph_box entries g) (boxes_from entries (g + 1) (count - (g + 1)))
kept_more entries g count lt = let one : count - g ≡ suc (count - (g + 1)) = omega (arith, lt) in ap (boxes_from entries g) one

-- from glyph 0 on
pub kept_done : (entries : List (Option (List ℕ))) (left count : ℕ) → left ≡ 0 → boxes_from entries left (count - left) ≡ boxes_from entries 0 count
kept_done entries left count none = let all : count - left ≡ count = omega (arith, none) in ap (boxes_from entries left) all ∙ ap (λ (k : ℕ). boxes_from entries k count) none
