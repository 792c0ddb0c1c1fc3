-- The coordinates of a named instance (OpenType, "fvar", "InstanceRecord").
use Rattle.std.specs.Prelude.{ℕ, ◌-◌, ◌==◌, ℤ, pos, Bool, true, false, if◌then◌else◌, List, [], ◌∷◌, ◌++◌, map, drop}
use Rattle.std.specs.Prelude.{take, length, decimal, Option, Some, None, is_some, codes}
use Rattle.std.specs.Char.{to_ascii_lowercase}
use Rattle.std.specs.Int.{w32, cast_signed}
use Rattle.std.specs.Option.{option_map, option_and_then, unwrap_or}
use Rattle.std.specs.Str.{bytes_eq}
use Rattle.subsetter_base.specs.Bytes.{number}
use Rattle.subsetter_base.specs.declared.tag.Tag.{Tag}
use Rattle.subsetter_sfnt.specs.Read.{Font, stored}
use Rattle.subsetter_variation.specs.Locations.Axes.{axes}
use Rattle.subsetter_variation.specs.declared.locations.axes.Axis.{Axis}
use Rattle.subset_lines.specs.Faces.Axes.{instances}
use Rattle.subset_lines.specs.Faces.Names.{name_of, text_of_units}

-- the same name but for the case of ASCII letters
abbrev pub is_same_name : List ℕ → List ℕ → Bool
is_same_name one other = bytes_eq (map to_ascii_lowercase one) (map to_ascii_lowercase other)

-- what a name has after a text, if it begins so but for the case
abbrev pub after_same : List ℕ → List ℕ → Option (List ℕ)
after_same [] name = Some name
after_same (a ∷ text) [] = None
after_same (a ∷ text) (b ∷ name) = if to_ascii_lowercase a == to_ascii_lowercase b then after_same text name else None

abbrev pub is_name_of : List ℕ → Option (List ℕ) → Bool
is_name_of name None = false
is_name_of name (Some units) = is_same_name (text_of_units units) name

-- a record whose subfamilyNameID, at its start, has that name in the table `name`
abbrev pub has_name : List ℕ → List ℕ → List ℕ → Bool
has_name names name bytes = is_name_of name (name_of names (number bytes 0 2))

-- the first such record
abbrev pub find_named : List ℕ → List ℕ → List (List ℕ) → Option (List ℕ)
find_named names name [] = None
find_named names name (bytes ∷ more) = if has_name names name bytes then Some bytes else find_named names name more

-- the coordinate of four bytes
abbrev pub coordinate_of_bits : Option ℕ → ℤ
coordinate_of_bits None = pos 0
coordinate_of_bits (Some bits) = cast_signed w32 bits

abbrev pub coordinate_in : List ℕ → ℤ
coordinate_in bytes = coordinate_of_bits (number bytes 0 4)

-- a coordinate for each axis
abbrev pub settings_of : List Axis → List ℕ → List (Tag × ℤ)
settings_of [] bytes = []
settings_of (a ∷ axes) bytes = (a.tag, coordinate_in bytes) ∷ settings_of axes (drop 4 bytes)

-- they begin after the name's number and the flags
abbrev pub instance_settings : List ℕ → List ℕ → List ℕ → Option (List (Tag × ℤ))
instance_settings names name fvar =
    option_and_then (λ a. option_and_then (λ records.
    option_map (λ bytes. settings_of a (drop 4 bytes)) (find_named names name records))
    (instances fvar))
    (axes fvar)

abbrev pub face_settings : Font → List ℕ → Option (List (Tag × ℤ))
face_settings font name =
    option_and_then (instance_settings (unwrap_or (stored font (codes "name")) []) name) (stored font (codes "fvar"))

-- ---- the line that lists the names

-- a name after a text, if there is one
abbrev pub name_after : List ℕ → Option (List ℕ) → List ℕ
name_after before None = []
name_after before (Some units) = before ++ text_of_units units

-- what is before the next name
abbrev pub before_next : List ℕ → Bool → List ℕ
before_next before true = codes ", "
before_next before false = before

-- the names of instances, those that have one, by their records
abbrev pub names_after : List ℕ → List ℕ → List (List ℕ) → List ℕ
names_after before names [] = []
names_after before names (bytes ∷ more) =
    name_after before (name_of names (number bytes 0 2))
    ++ names_after (before_next before (is_some (name_of names (number bytes 0 2)))) names more

abbrev pub line_of_names : List ℕ → List ℕ
line_of_names [] = codes "the font has no named instances\n"
line_of_names (b ∷ text) = (b ∷ text) ++ codes "\n"

-- the records of a `fvar` that can be read
abbrev pub records_of : List ℕ → Option (List (List ℕ))
records_of fvar = option_and_then (λ a. instances fvar) (axes fvar)

-- how many more there are
abbrev pub with_more : List ℕ → ℕ → List ℕ
with_more text more = if more == 0 then text else text ++ (codes " and " ++ (decimal more ++ codes " more"))

-- the names of the first twenty: `named instances: Regular, Semi Bold`
abbrev pub few_names : List ℕ → List (List ℕ) → List ℕ
few_names names records =
    line_of_names (with_more (names_after (codes "named instances: ") names (take 20 records)) (length records - 20))

abbrev pub names_line : List ℕ → Option (List (List ℕ)) → List ℕ
names_line names None = line_of_names []
names_line names (Some records) = few_names names records

abbrev pub face_names : Font → List ℕ
face_names font =
    names_line (unwrap_or (stored font (codes "name")) []) (option_and_then records_of (stored font (codes "fvar")))
