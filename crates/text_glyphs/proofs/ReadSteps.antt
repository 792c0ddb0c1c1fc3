-- One more character of a text.
use Rattle.std.proofs.Common.{◌≡◌, ℕ, ◌+◌, List, [], ◌∷◌, ◌++◌, map, refl, ap, sym, append_assoc}
use Rattle.std.specs.Option.{unwrap_or}
use Rattle.text_glyphs.specs.Choice.{character_glyph}
use Rattle.text_glyphs.specs.Own.{with_sequences}
use Rattle.text_glyphs.specs.Reading.{Source, entries_from, entry_at, glyphs_in, listed, missing_at, missing_from, next_begun, sequence_before}
use Rattle.text_glyphs.specs.declared.reading.Begun.{Begun}
use Rattle.text_glyphs.specs.declared.reading.Entry.{Entry}

-- the glyphs of sequences, from those that the characters have alone
pub own_glyphs : (s : Source) (text : List ℕ) → with_sequences s text (map (character_glyph s.table) text) ≡ glyphs_in s text
own_glyphs s [] = refl
own_glyphs s (c ∷ rest) = ap (λ glyphs. unwrap_or (sequence_before s c rest) (character_glyph s.table c) ∷ glyphs) (own_glyphs s rest)

pub entries_on : (so_far : List Entry) (b : Begun) (at c g : ℕ) (rest glyphs : List ℕ) → so_far ++ entries_from b at (c ∷ rest) (g ∷ glyphs) ≡ (so_far ++ listed (entry_at b at c rest g)) ++ entries_from (next_begun b at c) (at + 1) rest glyphs
entries_on so_far b at c g rest glyphs = sym (append_assoc so_far (listed (entry_at b at c rest g)) (entries_from (next_begun b at c) (at + 1) rest glyphs))

pub missing_on : (so_far : List ℕ) (at c g : ℕ) (rest glyphs : List ℕ) → so_far ++ missing_from at (c ∷ rest) (g ∷ glyphs) ≡ (so_far ++ listed (missing_at at c g)) ++ missing_from (at + 1) rest glyphs
missing_on so_far at c g rest glyphs = sym (append_assoc so_far (listed (missing_at at c g)) (missing_from (at + 1) rest glyphs))
