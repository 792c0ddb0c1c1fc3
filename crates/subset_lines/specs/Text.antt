-- Parts of the text that tells the new numbers.
use Rattle.std.specs.Prelude.{ℕ, false, true, ◌^◌, ◌-◌, List, [], ◌∷◌, Option, None}
use Rattle.std.specs.Fmt.{digits, padded_integral, format_spec}

-- the glyphs whose new numbers are printed, with the characters that they were found by, if by one, their names, as far
-- as there are any, and the old numbers in the order of the new ones
pub record Numbers : Type 0 where
  pub characters : List (Option ℕ)
  pub names : List (List ℕ)
  pub glyphs : List ℕ
  pub order : List ℕ

-- the first character, if there is one
abbrev pub first_character : List (Option ℕ) → Option ℕ
first_character [] = None
first_character (character ∷ characters) = character

-- the first name, an empty one where there is none
abbrev pub first_name : List (List ℕ) → List ℕ
first_name [] = []
first_name (name ∷ names) = name

-- at least four hexadecimal digits
abbrev pub four_digits : ℕ → List ℕ
four_digits n = padded_integral (format_spec 32 0 4 4 (2 ^ 64 - 1)) false [] (digits 16 true n)
