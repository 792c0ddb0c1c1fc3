-- The name of a font's family in the names of its instances (Technical Note 5902; OpenType, "name").
use Rattle.std.specs.Prelude.{ℕ, List, filter, Option}
use Rattle.std.specs.Char.{is_ascii_alphanumeric}
use Rattle.pdf_text.specs.SubsetName.{or_font}
use Rattle.pdf_values.specs.Name.{postscript_name, table_name}
use Rattle.subsetter_base.specs.Texts.{or_else}

-- the letters and digits of ASCII in a text
abbrev pub letters_and_digits : List ℕ → List ℕ
letters_and_digits text = filter is_ascii_alphanumeric text

-- those of the name of an ID
unfoldable pub plain_name : ℕ → Option (List ℕ) → List ℕ
plain_name id name = letters_and_digits (table_name id name)

-- the prefix for instances is that of ID 25, else of the typographic family, ID 16, else of the family, ID 1
abbrev pub family : Option (List ℕ) → List ℕ
family name = or_else (or_else (plain_name 25 name) (plain_name 16 name)) (plain_name 1 name)

-- else that of the PostScript name; and where there is none, `Font`
unfoldable pub prefix : Option (List ℕ) → Option (List ℕ) → List ℕ
prefix name cff = or_font (or_else (family name) (letters_and_digits (postscript_name name cff)))
