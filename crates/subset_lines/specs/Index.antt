-- What is noted of a face that a file doesn't have: it has one font, which is taken.
use Rattle.std.specs.Prelude.{ℕ, List, [], ◌++◌, Option, Some, None, codes, decimal}
use Rattle.plain_text.specs.Quoted.{quoted}

-- `face 3 is taken as face 0: the file has no other`
unfoldable pub index_text : ℕ → List ℕ
index_text index = codes "face " ++ decimal index ++ codes " is taken as face 0: the file has no other"

-- as a line, if there is one
abbrev pub index_line : Option ℕ → List ℕ
index_line None = []
index_line (Some index) = index_text index ++ codes "\n"

-- as a JSON string after a text
abbrev pub index_string : List ℕ → Option ℕ → List ℕ
index_string before None = []
index_string before (Some index) = before ++ quoted (index_text index)
