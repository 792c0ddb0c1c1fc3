-- The glyphs in use, with their texts.
use Rattle.std.specs.Prelude.{ℕ, List, [], ◌∷◌, take, drop, slice_index}
use Rattle.pdf_codes.specs.declared.shown.Shown.{Shown}

-- a glyph, and its text
pub record Entry : Type 0 where
  pub glyph : ℕ
  pub text : List ℕ

abbrev pub entry_of : Shown → Entry
entry_of s = record { glyph = s.glyph; text = s.text.now }

-- each glyph has as its text the next characters that are left, as many as its length says
abbrev pub entries_of : List ℕ → List ℕ → List ℕ → List Entry
entries_of text lengths [] = []
entries_of text lengths (g ∷ glyphs) =
    record { glyph = g; text = take (slice_index lengths 0) text }
    ∷ entries_of (drop (slice_index lengths 0) text) (drop 1 lengths) glyphs
