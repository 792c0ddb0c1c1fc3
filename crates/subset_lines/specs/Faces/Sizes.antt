-- The tables of a font before and after, with their sizes in bytes.
use Rattle.std.specs.Prelude.{ℕ, List, [], ◌∷◌, ◌++◌, map, Option, Some, None, codes, decimal}
use Rattle.plain_text.specs.Characters.{shown}
use Rattle.plain_text.specs.Quoted.{quoted}
use Rattle.subset_lines.specs.declared.faces.sizes.TableSize.{TableSize}

-- a size, or a text where there is none
abbrev pub size_or : List ℕ → Option ℕ → List ℕ
size_or none None = none
size_or none (Some size) = decimal size

-- `table glyf 46248 -> 612`
unfoldable pub table_line : TableSize → List ℕ
table_line t =
    codes "table " ++ map shown t.tag.0 ++ codes " " ++ size_or (codes "none") t.old
    ++ codes " -> " ++ size_or (codes "none") t.new ++ codes "\n"

abbrev pub table_lines : List TableSize → List ℕ
table_lines [] = []
table_lines (t ∷ tables) = table_line t ++ table_lines tables

-- the lines of tables, and `font 759720 -> 1234`
abbrev pub sizes_text : List TableSize → ℕ → ℕ → List ℕ
sizes_text tables old new =
    table_lines tables ++ (codes "font " ++ decimal old ++ codes " -> " ++ decimal new ++ codes "\n")

-- ---- as members of a JSON object

unfoldable pub table_object : TableSize → List ℕ
table_object t =
    codes "{\"tag\":" ++ quoted (map shown t.tag.0) ++ codes ",\"old\":" ++ size_or (codes "null") t.old
    ++ codes ",\"new\":" ++ size_or (codes "null") t.new ++ codes "}"

-- with a text before the first, and a comma between each two
abbrev pub table_objects : List ℕ → List TableSize → List ℕ
table_objects before [] = []
table_objects before (t ∷ tables) = (before ++ table_object t) ++ table_objects (codes ",") tables

abbrev pub sizes_member : ℕ → ℕ → List ℕ
sizes_member old new =
    codes ",\"sizes\":{\"old\":" ++ decimal old ++ codes ",\"new\":" ++ decimal new ++ codes "}"

abbrev pub tables_member : List TableSize → List ℕ
tables_member tables = codes ",\"tables\":[" ++ table_objects [] tables ++ codes "]"
