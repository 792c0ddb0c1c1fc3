-- The fields that are read of `head`, and what is written anew (OpenType, "head - Font Header Table").
use Rattle.std.specs.Prelude.{ℕ, Bool, if◌then◌else◌, List, [], ◌∷◌, ◌++◌, take, drop, slice_range, Option, ℤ}
use Rattle.subsetter_base.specs.Bytes.{number, field, signed_field}

abbrev pub units_per_em : List ℕ → Option ℕ
units_per_em head = number head 18 2

abbrev pub x_min : Option (List ℕ) → Option ℤ
x_min head = signed_field head 36

abbrev pub y_min : Option (List ℕ) → Option ℤ
y_min head = signed_field head 38

abbrev pub x_max : Option (List ℕ) → Option ℤ
x_max head = signed_field head 40

abbrev pub y_max : Option (List ℕ) → Option ℤ
y_max head = signed_field head 42

abbrev pub mac_style : Option (List ℕ) → Option ℕ
mac_style head = field head 44 2

-- 0 where `loca` has halves of offsets
abbrev pub index_to_loc_format : List ℕ → Option ℕ
index_to_loc_format head = number head 50 2

-- ---- written

-- indexToLocFormat: 0 for halves of offsets, 1 for offsets
abbrev pub format_bytes : Bool → List ℕ
format_bytes long = 0 ∷ (if long then 1 else 0) ∷ []

-- `head` with zeros in checksumAdjustment (bytes 8 to 12) until the file is laid out, with a box in xMin, yMin, xMax
-- and yMax (36 to 44), and with the format of loca in indexToLocFormat (50 to 52)
abbrev pub head_with : Bool → List ℕ → List ℕ → List ℕ
head_with long box head =
    take 8 head ++ (0 ∷ 0 ∷ 0 ∷ 0 ∷ []) ++ (slice_range head 12 36 ++ box ++ slice_range head 44 50)
    ++ format_bytes long ++ drop 52 head
