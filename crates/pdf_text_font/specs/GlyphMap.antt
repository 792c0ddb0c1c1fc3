-- CIDToGIDMap as a stream: two bytes for each CID, the number of its glyph (ISO 32000-1, 9.7.4.2, Table 117).
use Rattle.std.specs.Prelude.{ℕ, ◌+◌, ◌*◌, min, List, [], ◌∷◌, ◌++◌, Option}
use Rattle.std.specs.Int.{w16, to_be_bytes}
use Rattle.subsetter_base.specs.Bytes.{number}
use Rattle.pdf_text_font.specs.declared.pairs.Drawing.{Drawing}
use Rattle.pdf_text_font.specs.declared.pairs.Drawing.TheVariants.{Glyph, Own, Nothing}

-- the number of the glyph that draws a code: `owns` own glyphs are after the others, from number `first` on, and after
-- them the blank
abbrev pub glyph_number : ℕ → ℕ → Drawing → ℕ
glyph_number first owns (Glyph n) = n
glyph_number first owns (Own k) = first + min k owns
glyph_number first owns Nothing = first + owns

-- ---- written

abbrev pub map_bytes : ℕ → ℕ → List Drawing → List ℕ
map_bytes first owns [] = []
map_bytes first owns (d ∷ ds) = to_be_bytes w16 (glyph_number first owns d) ++ map_bytes first owns ds

-- ---- read

-- the glyph that a map leads a CID to
abbrev pub glyph_in : List ℕ → ℕ → Option ℕ
glyph_in bytes cid = number bytes (2 * cid) 2
