-- The named instance at a font's coordinates (OpenType, "fvar"), and its name (Technical Note 5902).
use Rattle.std.specs.Prelude.{ℕ, ℤ, zero, suc, ◌+◌, ◌*◌, ◌==◌, ◌&&◌, ◌||◌, nat_le, nat_lt, Bool, false, if◌then◌else◌}
use Rattle.std.specs.Prelude.{List, [], ◌∷◌, ◌++◌, drop, is_some, codes, Option, Some, None}
use Rattle.std.specs.Int.{w32, cast_signed}
use Rattle.std.specs.Option.{option_and_then, option_map_or}
use Rattle.std.specs.Ordering.{int_eq}
use Rattle.subsetter_base.specs.Bytes.{number, range}
use Rattle.subsetter_base.specs.declared.tag.Tag.{Tag}
use Rattle.subsetter_base.specs.Options.{◌>>=◌}
use Rattle.subsetter_variation.specs.Locations.Axes.{clamped}
use Rattle.subsetter_variation.specs.declared.locations.axes.Axis.{Axis}
use Rattle.pdf_names.specs.Letters.{plain_name}
use Rattle.pdf_values.specs.Name.{table_name}
use Rattle.subsetter_base.specs.Texts.{or_else}

-- ---- which instance

-- whether four bytes are the coordinate of an axis
abbrev pub is_coordinate : Axis → List (Tag × ℤ) → Option ℕ → Bool
is_coordinate a settings bits = option_map_or (λ b. int_eq (cast_signed w32 b) (clamped a settings)) bits false

-- the bytes after the coordinates of all axes, four bytes each, where they are the font's
abbrev pub after_coordinates : List Axis → List (Tag × ℤ) → List ℕ → Option (List ℕ)
after_coordinates [] settings bytes = Some bytes
after_coordinates (a ∷ axes) settings bytes =
    if is_coordinate a settings (number bytes 0 4) then after_coordinates axes settings (drop 4 bytes) else None

-- a record has subfamilyNameID, flags, the coordinates, and may have postScriptNameID after them
abbrev pub past_flags : List Axis → List (Tag × ℤ) → List ℕ → Option (List ℕ)
past_flags axes settings bytes = after_coordinates axes settings (drop 4 bytes)

-- the first of the next n records of one size, from a place on, that has the font's coordinates
abbrev pub record_from : List Axis → List (Tag × ℤ) → List ℕ → ℕ → ℕ → ℕ → Option (List ℕ)
record_from axes settings fvar size zero at = None
record_from axes settings fvar size (suc n) at =
    option_and_then (λ bytes.
    if is_some (past_flags axes settings bytes) then Some bytes else record_from axes settings fvar size n (at + size))
    (range fvar at size)

-- axesArrayOffset, axisCount, axisSize, instanceCount and instanceSize; the records of instances are after those of the
-- axes
unfoldable pub record_in : List Axis → List (Tag × ℤ) → List ℕ → Option (List ℕ)
record_in axes settings fvar = do
  at ← number fvar 4 2
  axis_count ← number fvar 8 2
  axis_size ← number fvar 10 2
  count ← number fvar 12 2
  size ← number fvar 14 2
  record_from axes settings fvar size count (at + axis_count * axis_size)

-- ---- its name

-- what a postScriptNameID may be: 6, or from 256 to 32767
abbrev pub is_own : ℕ → Bool
is_own id = id == 6 || (nat_le 256 id && nat_lt id 32768)

-- its ID, if the record has it
abbrev pub own_id : List Axis → List (Tag × ℤ) → List ℕ → Option ℕ
own_id axes settings bytes = option_and_then (λ rest. number rest 0 2) (past_flags axes settings bytes)

-- the PostScript name of an ID
unfoldable pub own_name : Option (List ℕ) → Option ℕ → List ℕ
own_name name id = option_map_or (λ i. if is_own i then table_name i name else []) id []

-- the letters and digits of the subfamily's name
unfoldable pub subfamily : Option (List ℕ) → List ℕ → List ℕ
subfamily name bytes = option_map_or (λ id. plain_name id name) (number bytes 0 2) []

-- a prefix, `-` and a subfamily, if it has characters
abbrev pub hyphenated : List ℕ → List ℕ → List ℕ
hyphenated front [] = []
hyphenated front (b ∷ bytes) = front ++ (codes "-" ++ (b ∷ bytes))

-- the PostScript name, else the prefix with the subfamily
unfoldable pub names_or : Option (List ℕ) → List ℕ → Option ℕ → List ℕ → List ℕ
names_or name front id bytes = or_else (own_name name id) (hyphenated front (subfamily name bytes))

-- the name of the instance at the coordinates, with this prefix; no characters where there is none
abbrev pub instance_name : Option (List ℕ) → List ℕ → List Axis → List (Tag × ℤ) → Option (List ℕ) → List ℕ
instance_name name front axes settings fvar =
    option_map_or (λ bytes. names_or name front (own_id axes settings bytes) bytes)
    (option_and_then (record_in axes settings) fvar) []
