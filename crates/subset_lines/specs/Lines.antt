-- The lines that tell the new numbers.
use Rattle.std.specs.Prelude.{ℕ, List, [], ◌∷◌, ◌++◌, drop, Option, Some, None, codes, decimal}
use Rattle.subsetter_base.specs.Indexes.{index_of}
use Rattle.subset_lines.specs.Text.{Numbers, first_character, four_digits}

-- a character as `U+` and its number, with a blank after it
abbrev pub name_of : Option ℕ → List ℕ
name_of None = []
name_of (Some c) = codes "U+" ++ four_digits c ++ codes " "

-- the line `old -> new`, with the character before it; nothing for a glyph without a new number
abbrev pub line_of : Option ℕ → ℕ → Option ℕ → List ℕ
line_of character old None = []
line_of character old (Some new) = name_of character ++ decimal old ++ codes " -> " ++ decimal new ++ 10 ∷ []

-- a line for each glyph, in order
abbrev pub lines_for : List ℕ → List (Option ℕ) → List ℕ → List ℕ
lines_for order characters [] = []
lines_for order characters (old ∷ glyphs) =
    line_of (first_character characters) old (index_of order old) ++ lines_for order (drop 1 characters) glyphs

-- a text as a line, which an empty one isn't
abbrev pub last_line : List ℕ → List ℕ
last_line [] = []
last_line (b ∷ text) = (b ∷ text) ++ 10 ∷ []

-- a line for each glyph, the text as a line, and further lines
abbrev pub lines_of : Numbers → List ℕ → List ℕ → List ℕ
lines_of n text more = lines_for n.order n.characters n.glyphs ++ last_line text ++ more
