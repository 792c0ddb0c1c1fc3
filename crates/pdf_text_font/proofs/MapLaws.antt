-- A map of glyphs is read.
use Rattle.std.proofs.Common.{◌≡◌, ℕ, zero, suc, ◌+◌, ◌*◌, ◌<◌, get_or, List, [], ◌∷◌, ◌++◌, length, Some, refl, sym, ap, ◌∙◌, append_assoc, length-append, arith}
use Rattle.std.specs.Int.{w16, to_be_bytes}
use Rattle.std.specs.Option.{option_map}
use Rattle.subsetter_base.specs.Bytes.{be, range}
use Rattle.subsetter_base.proofs.ByteLemmas.{range-middle, be-u16}
use Rattle.pdf_text_font.specs.GlyphMap.{glyph_number, map_bytes}
use Rattle.pdf_text_font.specs.Laws.{MapsAreRead}
use Rattle.pdf_text_font.specs.declared.pairs.Drawing.{Drawing}
use Rattle.pdf_text_font.specs.declared.pairs.Drawing.TheVariants.{Nothing}

map_at : (first owns : ℕ) (ds : List Drawing) (k : ℕ) (pre bytes : List ℕ) (at : ℕ) → k < length ds → bytes ≡ pre ++ map_bytes first owns ds → at ≡ length pre + 2 * k → range bytes at 2 ≡ Some (to_be_bytes w16 (glyph_number first owns (get_or ds k Nothing)))
map_at first owns [] k pre bytes at lt is a = absurd (omega arith)
map_at first owns (d ∷ ds) zero pre bytes at lt is a = range-middle bytes pre (to_be_bytes w16 (glyph_number first owns d)) (map_bytes first owns ds) at 2 is (omega arith) refl
map_at first owns (d ∷ ds) (suc k) pre bytes at lt is a =
    map_at first owns ds k (pre ++ to_be_bytes w16 (glyph_number first owns d)) bytes at (omega arith)
    (is ∙ sym (append_assoc pre (to_be_bytes w16 (glyph_number first owns d)) (map_bytes first owns ds)))
    (omega (arith, length-append pre (to_be_bytes w16 (glyph_number first owns d))))

pub maps_are_read : MapsAreRead
maps_are_read first owns ds k lt small =
    ap (option_map be) (map_at first owns ds k [] (map_bytes first owns ds) (2 * k) lt refl (omega arith)) ∙ ap Some (be-u16 (glyph_number first owns (get_or ds k Nothing)) small)
