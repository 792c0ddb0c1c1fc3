-- A PDF file (ISO 32000-1, 7.5): header, objects, cross-reference table and trailer.
use Rattle.std.specs.Prelude.{◌<◌, ℕ, zero, suc, ◌+◌, ◌*◌, ◌/◌, ◌%◌, List, [], ◌∷◌, ◌++◌, length, get_or, take, drop}
use Rattle.std.specs.Prelude.{codes, decimal}
use Rattle.std.specs.List.{concat}
use Rattle.std.specs.Str.Parse.{digits_value}
use Rattle.pdf_text.specs.Objects.{objects_from, offsets_from, IsObjectAt}

-- with four bytes above 127, so that the file is taken as binary (7.5.2)
abbrev pub header : List ℕ
header = codes "%PDF-1.7\n%" ++ (226 ∷ 227 ∷ 207 ∷ 211 ∷ 10 ∷ [])

-- header, and objects from number 1 on
abbrev pub body_of : List (List ℕ) → List ℕ
body_of values = header ++ concat (objects_from 1 values)

-- where each object begins
abbrev pub offsets_of : List (List ℕ) → List ℕ
offsets_of values = offsets_from (length header) (objects_from 1 values)

-- ---- the cross-reference table (7.5.4)

-- the last n digits of a number
abbrev pub digits : ℕ → ℕ → List ℕ
digits zero n = []
digits (suc count) n = digits count (n / 10) ++ ((48 + n % 10) ∷ [])

-- an entry: an offset of ten digits, the generation 0, in use
abbrev pub row : ℕ → List ℕ
row offset = digits 10 offset ++ codes " 00000 n \n"

abbrev pub rows : List ℕ → List ℕ
rows [] = []
rows (o ∷ os) = row o ++ rows os

-- before the entries of objects in use
abbrev pub table_front : ℕ → List ℕ
table_front size = codes "xref\n0 " ++ (decimal size ++ codes "\n0000000000 65535 f \n")

-- ---- the file

-- size: one more than the number of objects; start: where the table begins (7.5.5)
abbrev pub trailer : ℕ → ℕ → List ℕ
trailer size start =
    codes "trailer\n<< /Size "
    ++ (decimal size ++ (codes " /Root 1 0 R >>\nstartxref\n" ++ (decimal start ++ codes "\n%%EOF\n")))

abbrev pub table_and_trailer : List ℕ → ℕ → List ℕ
table_and_trailer offsets start =
    table_front (length offsets + 1) ++ (rows offsets ++ trailer (length offsets + 1) start)

-- the file whose objects have these values
abbrev pub file_of : List (List ℕ) → List ℕ
file_of values = body_of values ++ table_and_trailer (offsets_of values) (length (body_of values))

-- ---- the law

-- what the entry of an object says, in a table that begins at an offset, of `count` objects: an entry has 20 bytes
abbrev pub listed_offset : List ℕ → ℕ → ℕ → ℕ → ℕ
listed_offset file start count n =
    digits_value 10 (take 10 (drop (20 * n) (drop (start + length (table_front (count + 1))) file)))

-- the entry of each object says where it begins, the object is there, and it goes on to the next one, or to the table
abbrev pub AreInTable : List ℕ → ℕ → List (List ℕ) → Type 0
AreInTable file start values =
    (k : ℕ) → k < length values
    → IsObjectAt file (listed_offset file start (length values) k)
    (get_or (offsets_of values) (k + 1) start) (1 + k) (get_or values k [])

abbrev pub ObjectsAreInTable : Type 0
ObjectsAreInTable =
    (values : List (List ℕ)) → length (body_of values) < 10000000000
    → AreInTable (file_of values) (length (body_of values)) values
