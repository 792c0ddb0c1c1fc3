-- What is noted of characters that a font has no glyph for.
use Rattle.std.specs.Prelude.{ℕ, nat_lt, if◌then◌else◌, List, [], ◌∷◌, ◌++◌, take, length, codes}
use Rattle.plain_text.specs.Quoted.{quoted}
use Rattle.subset_lines.specs.Text.{four_digits}

-- `U+2603`
abbrev pub character_text : ℕ → List ℕ
character_text c = codes "U+" ++ four_digits c

-- with a text before the first, and a comma between each two
abbrev pub names_text : List ℕ → List ℕ → List ℕ
names_text before [] = []
names_text before (c ∷ characters) = (before ++ character_text c) ++ names_text (codes ", ") characters

-- three are named
abbrev pub others_text : List ℕ → List ℕ
others_text characters = if nat_lt 3 (length characters) then codes " and others" else []

-- `no glyph for U+2603, U+2604, U+2605 and others: glyph 0 is shown`
unfoldable pub missing_text : List ℕ → List ℕ
missing_text characters =
    codes "no glyph for " ++ names_text [] (take 3 characters) ++ others_text characters ++ codes ": glyph 0 is shown"

-- as a line; nothing where there are none
abbrev pub missing_line : List ℕ → List ℕ
missing_line [] = []
missing_line (c ∷ characters) = missing_text (c ∷ characters) ++ codes "\n"

-- as a JSON string after a text
abbrev pub missing_string : List ℕ → List ℕ → List ℕ
missing_string before [] = []
missing_string before (c ∷ characters) = before ++ quoted (missing_text (c ∷ characters))
