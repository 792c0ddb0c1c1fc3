-- Text as UTF-16 (Unicode, 3.9, "Unicode Encoding Forms"), which a ToUnicode CMap has (ISO 32000-1, 9.10.3).
use Rattle.std.specs.Prelude.{ℕ, ◌==◌, ◌||◌, nat_lt, Bool, if◌then◌else◌, List, [], ◌∷◌, ◌++◌, length}
use Rattle.subsetter_base.specs.Texts.{utf16}

-- U+0000, U+FEFF and U+FFFE, which no code may have as its text (ISO 19005-2, 6.2.11.7.2)
abbrev pub is_left_out : ℕ → Bool
is_left_out c = c == 0 || (c == 65279 || c == 65534)

abbrev pub units_of_character : ℕ → List ℕ
units_of_character c = if is_left_out c then [] else utf16 c

abbrev pub units_of : List ℕ → List ℕ
units_of [] = []
units_of (c ∷ cs) = units_of_character c ++ units_of cs

-- more than 512 bytes, which is the most that a ToUnicode CMap may have of a code (ISO 32000-1, 9.10.3)
abbrev pub is_long_text : List ℕ → Bool
is_long_text units = nat_lt 256 (length units)
