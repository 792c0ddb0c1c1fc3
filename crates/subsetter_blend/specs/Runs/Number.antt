-- The numbers of a CFF2 charstring in parts of 2^30 (OpenType, "CFF2 CharString Format"; Technical Note 5177, section
-- 3.2).
use Rattle.std.specs.Prelude.{ℕ, ◌+◌, ◌/◌, ◌%◌, ◌^◌, ◌≤◌, ◌==◌, ℤ, pos, negsuc, ◌*ℤ◌, ◌-ℤ◌, Bool, true, ◌&&◌, nat_le}
use Rattle.std.specs.Prelude.{if◌then◌else◌, List, [], ◌∷◌, Option, Some, None, unsigned_abs}
use Rattle.std.specs.Option.{option_and_then}
use Rattle.subsetter_cffdata.specs.declared.numerals.charstring_number.CharStringNumber.{CharStringNumber}
use Rattle.subsetter_cffdata.specs.declared.numerals.charstring_number.CharStringNumber.TheVariants.{Integer, Fixed}
use Rattle.subsetter_cffdata.specs.Numerals.Numbers.{not_negative}
use Rattle.subsetter_variation.specs.Nearest.{nearest}

-- a whole number, or one of 65536ths, in parts: exact
abbrev pub in_parts : CharStringNumber → ℤ
in_parts (Integer v) = v *ℤ pos 1073741824
in_parts (Fixed k) = k *ℤ pos 16384

-- within 32768 units, in parts of 2^30
abbrev pub IsWithin : ℤ → Type 0
IsWithin z = unsigned_abs z ≤ 2 ^ 45

abbrev pub is_within : ℤ → Bool
is_within z = nat_le (unsigned_abs z) (2 ^ 45)

abbrev pub are_within : List ℤ → Bool
are_within [] = true
are_within (z ∷ zs) = is_within z && are_within zs

-- the whole number that parts are, where they are one
unfoldable pub whole_in : ℤ → Option ℤ
whole_in (pos n) = if n % 1073741824 == 0 then Some (pos (n / 1073741824)) else None
whole_in (negsuc n) = if (n + 1) % 1073741824 == 0 then Some (pos 0 -ℤ pos ((n + 1) / 1073741824)) else None

-- the same, where it isn't below 0
unfoldable pub natural_in : ℤ → Option ℕ
natural_in z = option_and_then not_negative (whole_in z)

-- the nearest whole number of units, halves up
unfoldable pub whole : ℤ → ℤ
whole v = nearest v 1073741824
