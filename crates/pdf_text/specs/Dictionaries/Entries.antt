-- The entries of a dictionary (ISO 32000-1, 7.3.7), as texts.
use Rattle.std.specs.Prelude.{ℕ, List, [], ◌++◌, codes, decimal, ℤ}
use Rattle.pdf_text.specs.Numbers.{integers}

-- an indirect reference (7.3.10)
abbrev pub reference : ℕ → List ℕ
reference n = decimal n ++ codes " 0 R"

abbrev pub array : List ℤ → List ℕ
array zs = codes "[" ++ (integers zs ++ codes "]")

-- an entry of a dictionary (7.3.7): the name of its key, its value, and a space
abbrev pub entry : List ℕ → List ℕ → List ℕ
entry key value = codes "/" ++ (key ++ (codes " " ++ (value ++ codes " ")))

abbrev pub dictionary : List ℕ → List ℕ
dictionary entries = codes "<< " ++ (entries ++ codes ">>")

-- CIDs that are numbers of glyphs
abbrev pub system_info : List ℕ
system_info = codes "<< /Registry (Adobe) /Ordering (Identity) /Supplement 0 >>"
