-- The tables of faces, with their sizes in bytes.
use Rattle.std.specs.Prelude.{ℕ, ◌/◌, if◌then◌else◌, List, [], ◌∷◌, ◌++◌, length, map, Option, Some, None, is_some}
use Rattle.std.specs.Option.{option_map}
use Rattle.subsetter_base.specs.declared.tag.Tag.{Tag}
use Rattle.subsetter_sfnt.specs.declared.face.TableRecord.{TableRecord}
use Rattle.subsetter_sfnt.specs.Read.{directory_records, find_record}
use Rattle.subset_lines.specs.declared.faces.sizes.TableSize.{TableSize}

-- the records of a directory
abbrev pub records_in : List ℕ → List TableRecord
records_in bytes = directory_records (length bytes / 16) bytes

-- the size of the first table of a tag
abbrev pub size_among : Tag → List TableRecord → Option ℕ
size_among tag records = option_map (λ r. r.length) (find_record tag.0 records)

-- a table of the font that is read, with its size in the new one
abbrev pub old_row : List TableRecord → TableRecord → TableSize
old_row news r = record { tag = r.tag; old = Some r.length; new = size_among r.tag news }

-- a table of the new one, if the other has no such table
abbrev pub new_row : List TableRecord → TableRecord → List TableSize
new_row olds r =
    if is_some (size_among r.tag olds) then [] else record { tag = r.tag; old = None; new = Some r.length } ∷ []

abbrev pub new_rows : List TableRecord → List TableRecord → List TableSize
new_rows olds [] = []
new_rows olds (r ∷ news) = new_row olds r ++ new_rows olds news

-- the tables of both
abbrev pub table_sizes : List TableRecord → List TableRecord → List TableSize
table_sizes olds news = map (old_row news) olds ++ new_rows olds news

-- the tables of one, with their sizes
abbrev pub tag_and_size : TableRecord → Tag × ℕ
tag_and_size r = (r.tag, r.length)

abbrev pub tables_of : List TableRecord → List (Tag × ℕ)
tables_of records = map tag_and_size records
