-- Glyphs of many characters, found in steps.
use Rattle.std.specs.Prelude.{ℕ, List, [], ◌∷◌, Option, Some, None}
use Rattle.std.specs.Option.{unwrap_or}
use Rattle.text_glyphs.specs.Encodings.{code_of}
use Rattle.text_glyphs.specs.Reading.{Source, sequence_before}
use Rattle.text_glyphs.specs.declared.encodings.Encoding.{Encoding}

-- a code, and the glyph of a code: 0 where a character has no code
abbrev pub code_or_zero : Encoding → ℕ → ℕ
code_or_zero encoding c = unwrap_or (code_of encoding c) 0

abbrev pub if_found : Option ℕ → ℕ → ℕ
if_found None g = 0
if_found (Some code) g = g

abbrev pub if_coded : Encoding → ℕ → ℕ → ℕ
if_coded encoding c g = if_found (code_of encoding c) g

abbrev pub with_codes : Encoding → List ℕ → List ℕ → List ℕ
with_codes encoding [] glyphs = []
with_codes encoding (c ∷ rest) [] = []
with_codes encoding (c ∷ rest) (g ∷ glyphs) = if_coded encoding c g ∷ with_codes encoding rest glyphs

-- the glyphs of sequences, from those that the characters have alone
abbrev pub with_sequences : Source → List ℕ → List ℕ → List ℕ
with_sequences s [] own = []
with_sequences s (c ∷ rest) [] = []
with_sequences s (c ∷ rest) (g ∷ own) = unwrap_or (sequence_before s c rest) g ∷ with_sequences s rest own
