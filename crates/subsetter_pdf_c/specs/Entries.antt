-- How glyphs with their texts come from C: as 32-bit characters, and where the text of each glyph ends among them. It
-- begins where the one before ends.
use Rattle.std.specs.Prelude.{◌≡◌, ℕ, true, ◌-◌, ◌==◌, ◌&&◌, nat_le, Bool, List, [], ◌∷◌, length, take, drop}
use Rattle.std.specs.List.{list_all}
use Rattle.pdf_codes.specs.Codes.{Used}
use Rattle.pdf_codes.specs.Units.{units_of}
use Rattle.subsetter_base.specs.Texts.{is_scalar}

abbrev pub are_scalars : List ℕ → Bool
are_scalars text = list_all is_scalar text

-- each end is at least the one before, and the last is at most the bound
abbrev pub are_ascending : ℕ → List ℕ → ℕ → Bool
are_ascending last [] bound = nat_le last bound
are_ascending last (end ∷ ends) bound = nat_le last end && are_ascending end ends bound

-- `count` glyphs have texts
abbrev pub are_texts : ℕ → List ℕ → List ℕ → Bool
are_texts count text ends = count == length ends && (are_scalars text && are_ascending 0 ends (length text))

-- the same as facts
pub record AreTexts (count : ℕ) (text ends : List ℕ) : Type 0 where
  pub count_is : count ≡ length ends
  pub scalars : are_scalars text ≡ true
  pub ascending : are_ascending 0 ends (length text) ≡ true

abbrev pub text_between : List ℕ → ℕ → ℕ → List ℕ
text_between text start end = take (end - start) (drop start text)

-- the texts that end there, of which the first begins at a character
abbrev pub texts_from : List ℕ → ℕ → List ℕ → List (List ℕ)
texts_from text start [] = []
texts_from text start (end ∷ ends) = text_between text start end ∷ texts_from text end ends

-- glyphs in use, each with its text
abbrev pub uses_with : List ℕ → List (List ℕ) → List Used
uses_with [] texts = []
uses_with (g ∷ glyphs) [] = []
uses_with (g ∷ glyphs) (t ∷ texts) = record { glyph = g; units = units_of t } ∷ uses_with glyphs texts

abbrev pub uses_in : List ℕ → List ℕ → List ℕ → List Used
uses_in glyphs text ends = uses_with glyphs (texts_from text 0 ends)
