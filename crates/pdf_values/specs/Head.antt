-- The fields that are read of `head` (OpenType, "head - Font Header Table"), `hhea` ("hhea - Horizontal Header Table")
-- and `post` ("post - PostScript Table").
use Rattle.std.specs.Prelude.{ℕ, ◌==◌, Bool, false, if◌then◌else◌, List, Option, Some, None}
use Rattle.std.specs.Option.{option_and_then, option_map_or, unwrap_or}
use Rattle.pdf_values.specs.Fields.{has_bit}
use Rattle.subsetter_base.specs.Bytes.{field}

-- unitsPerEm, if it is above 0, which OpenType wants; else a thousand
abbrev pub units_per_em : Option (List ℕ) → ℕ
units_per_em head = unwrap_or (option_and_then (λ n. if n == 0 then None else Some n) (field head 18 2)) 1000

-- whether a field that is said has a bit
abbrev pub sets_bit : Option ℕ → ℕ → Bool
sets_bit o place = option_map_or (λ n. has_bit n place) o false
