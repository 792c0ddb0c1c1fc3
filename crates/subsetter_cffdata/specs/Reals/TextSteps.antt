-- The text of a real, read nibble by nibble after a front.
use Rattle.std.specs.Prelude.{ℕ, ◌/◌, ◌%◌, Bool, true, false, ◌==◌, nat_le, if◌then◌else◌, List, [], ◌∷◌, ◌++◌, take}
use Rattle.std.specs.Prelude.{length, Option, Some, None}
use Rattle.subsetter_base.specs.Options.{◌>>=◌}
use Rattle.subsetter_cffdata.specs.Reals.Decimals.{characters, text_limit}
use Rattle.subsetter_cffdata.specs.declared.reals.text.Text.{Text}

-- the characters that a text in memory has
abbrev pub shown : Text → List ℕ
shown t = take t.len t.characters

abbrev pub fitting : List ℕ → Option (List ℕ)
fitting text = if nat_le (length text) text_limit then Some text else None

-- a text with the characters of one nibble more, where they have room
unfoldable pub extended : List ℕ → ℕ → Option (List ℕ)
extended text nibble = characters nibble >>= λ more. fitting (text ++ more)

-- a text with the characters of one byte more, and whether the end is there
unfoldable pub byte_step : List ℕ → ℕ → Option (Bool × List ℕ)
byte_step text b =
    if b / 16 == 15 then Some (true, text) else
    (extended text (b / 16) >>= λ high. if b % 16 == 15 then Some (true, high) else
    (extended high (b % 16) >>= λ low. Some (false, low)))

-- the text after a front
unfoldable pub text_from : List ℕ → List ℕ → Option (List ℕ × List ℕ)
text_from front [] = None
text_from front (b ∷ bytes) = byte_step front b >>= λ s. if s.0 then Some (s.1, bytes) else text_from s.1 bytes
