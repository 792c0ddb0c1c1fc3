-- Worked examples of outlines without instructions, and of `post` without names.
use Rattle.std.proofs.Common.{◌≡◌, false, [], ◌∷◌, ◌++◌, refl}
use Rattle.std.specs.Prelude.{replicate}
use Rattle.subsetter_sfnt.specs.Extras.{without_glyph_names}
use Rattle.subsetter.specs.Glyf.BareOutlines.Bare.{bare_simple, requested_chain}

-- one contour, whose last point is 2, and three bytes of instructions
row_simple : bare_simple (0 ∷ 1 ∷ 0 ∷ 0 ∷ 0 ∷ 0 ∷ 0 ∷ 10 ∷ 0 ∷ 10 ∷ 0 ∷ 2 ∷ 0 ∷ 3 ∷ 0xB0 ∷ 0 ∷ 0x2F ∷ 0x31 ∷ 0x33 ∷ 0x35 ∷ []) ≡ 0 ∷ 1 ∷ 0 ∷ 0 ∷ 0 ∷ 0 ∷ 0 ∷ 10 ∷ 0 ∷ 10 ∷ 0 ∷ 2 ∷ 0 ∷ 0 ∷ 0x31 ∷ 0x33 ∷ 0x35 ∷ []
unfolding bare_simple
row_simple = refl

-- instructions that aren't all there: the outline stays
row_cut : bare_simple (0 ∷ 1 ∷ 0 ∷ 0 ∷ 0 ∷ 0 ∷ 0 ∷ 10 ∷ 0 ∷ 10 ∷ 0 ∷ 2 ∷ 0 ∷ 3 ∷ 0xB0 ∷ []) ≡ 0 ∷ 1 ∷ 0 ∷ 0 ∷ 0 ∷ 0 ∷ 0 ∷ 10 ∷ 0 ∷ 10 ∷ 0 ∷ 2 ∷ 0 ∷ 3 ∷ 0xB0 ∷ []
unfolding bare_simple
row_cut = refl

-- one component, with WE_HAVE_INSTRUCTIONS, and two bytes of them with their length
row_chain : requested_chain false (record { components = record { flags = 0x0102; glyph = 5; rest = 0 ∷ 10 ∷ [] } ∷ []; tail = 0 ∷ 2 ∷ 0xB0 ∷ 0 ∷ [] }) ≡ record { components = record { flags = 0x0002; glyph = 5; rest = 0 ∷ 10 ∷ [] } ∷ []; tail = [] }
row_chain = refl

-- a header of 32 bytes, one index and a name
row_post : without_glyph_names (0 ∷ 2 ∷ 0 ∷ 0 ∷ replicate 28 7 ++ 0 ∷ 1 ∷ 1 ∷ 2 ∷ 1 ∷ 65 ∷ []) ≡ 0 ∷ 3 ∷ 0 ∷ 0 ∷ replicate 28 7
row_post = refl
