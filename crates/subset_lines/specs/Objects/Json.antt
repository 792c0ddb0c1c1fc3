-- The same as one JSON object (RFC 8259).
use Rattle.std.specs.Prelude.{ℕ, List, [], ◌∷◌, ◌++◌, drop, map, Option, Some, None, codes, decimal}
use Rattle.subsetter_base.specs.Indexes.{index_of}
use Rattle.plain_text.specs.Characters.{shown}
use Rattle.plain_text.specs.Quoted.{quoted}
use Rattle.subset_lines.specs.Text.{Numbers, first_character, first_name}

-- the member that has a character's number
abbrev pub character_member : Option ℕ → List ℕ
character_member None = []
character_member (Some c) = codes "\"character\":" ++ decimal c ++ codes ","

abbrev pub number_or_null : Option ℕ → List ℕ
number_or_null None = codes "null"
number_or_null (Some number) = decimal number

-- the member that has a glyph's name, which an empty one isn't; a byte that isn't a printable one of ASCII is shown as
-- `?`
abbrev pub name_member : List ℕ → List ℕ
name_member [] = []
name_member (b ∷ name) = codes ",\"name\":" ++ quoted (map shown (b ∷ name))

-- the object of a glyph
unfoldable pub object_of : Option ℕ → List ℕ → ℕ → Option ℕ → List ℕ
object_of character name old new =
    codes "{" ++ character_member character ++ (codes "\"old\":" ++ decimal old)
    ++ codes ",\"new\":" ++ number_or_null new ++ name_member name ++ codes "}"

-- the objects of glyphs, in order, with a text before the first and a comma between each two
abbrev pub objects : List ℕ → List ℕ → List (Option ℕ) → List (List ℕ) → List ℕ → List ℕ
objects before order characters names [] = []
objects before order characters names (old ∷ glyphs) =
    (before ++ object_of (first_character characters) (first_name names) old (index_of order old))
    ++ objects (codes ",") order (drop 1 characters) (drop 1 names) glyphs

-- the member that has the widths, whose text an empty one isn't
abbrev pub widths_member : List ℕ → List ℕ
widths_member [] = []
widths_member (b ∷ text) = codes ",\"widths\":" ++ (b ∷ text)

-- the member that has the glyphs, and what opens the object
abbrev pub glyphs_member : Numbers → List ℕ
glyphs_member n = codes "{\"glyphs\":[" ++ objects [] n.order n.characters n.names n.glyphs ++ codes "]"

-- the object, with further members, on a line
abbrev pub json_of : Numbers → List ℕ → List ℕ → List ℕ
json_of n text members = glyphs_member n ++ widths_member text ++ members ++ codes "}\n"

-- numbers, with a text before the first and a comma between each two
abbrev pub numbers_from : List ℕ → List ℕ → List ℕ
numbers_from before [] = []
numbers_from before (n ∷ ns) = (before ++ decimal n) ++ numbers_from (codes ",") ns

-- an array of numbers
abbrev pub array_of : List ℕ → List ℕ
array_of ns = codes "[" ++ numbers_from [] ns ++ codes "]"
