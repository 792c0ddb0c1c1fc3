-- DW, the most frequent width (ISO 32000-1, 9.7.4.3).
use Rattle.std.specs.Prelude.{◌≡◌, ◌<◌, ◌≤◌, ℕ, ◌==◌, List, length, slice_index, count_by}

-- how many glyphs have a width
abbrev pub count_of : List ℕ → ℕ → ℕ
count_of ws w = count_by (λ u. u == w) ws

-- it is the width of a glyph, no glyph has a more frequent one, and each glyph before it has a rarer one
pub record IsMostFrequent (ws : List ℕ) (w : ℕ) : Type 0 where
  pub index : ℕ
  pub within : index < length ws
  pub there : slice_index ws index ≡ w
  pub most : (i : ℕ) → i < length ws → count_of ws (slice_index ws i) ≤ count_of ws w
  pub earliest : (i : ℕ) → i < index → count_of ws (slice_index ws i) < count_of ws w
