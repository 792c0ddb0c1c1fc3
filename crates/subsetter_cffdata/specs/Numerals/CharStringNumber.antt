-- The numbers of a charstring (Technical Note 5177, section 3.2 "Charstring Number Encoding").
use Rattle.std.specs.Prelude.{◌≡◌, ℕ, ◌+◌, ◌-◌, ◌*◌, ◌/◌, ◌%◌, ℤ, pos, negsuc, ◌-ℤ◌, FitsSigned, List, [], ◌∷◌, ◌++◌}
use Rattle.std.specs.Prelude.{Option, Some, None, nat_lt, nat_le, ◌==◌, if◌then◌else◌}
use Rattle.std.specs.Int.{cast_signed, cast_unsigned, w16, w32}
use Rattle.std.specs.Option.{option_map}
use Rattle.subsetter_cffdata.specs.Numerals.Numbers as numbers
use Rattle.subsetter_cffdata.specs.declared.numerals.charstring_number.CharStringNumber.{CharStringNumber}
use Rattle.subsetter_cffdata.specs.declared.numerals.charstring_number.CharStringNumber.TheVariants.{Integer, Fixed}

-- 28: a whole number in the next two bytes
abbrev pub short_number : List ℕ → Option (CharStringNumber × List ℕ)
short_number (high ∷ low ∷ rest) = Some (Integer (cast_signed w16 (high * 256 + low)), rest)
short_number _ = None

-- 255: a number of 65536ths in the next four bytes
abbrev pub fixed_number : List ℕ → Option (CharStringNumber × List ℕ)
fixed_number (a ∷ b ∷ c ∷ d ∷ rest) =
    Some (Fixed (cast_signed w32 (a * 16777216 + b * 65536 + c * 256 + d)), rest)
fixed_number _ = None

-- the whole number of two bytes, the first of them 247 to 254
abbrev pub middle_value : ℕ → ℕ → ℤ
middle_value first second =
    if nat_lt first 251 then pos ((first - 247) * 256 + second + 108)
    else pos 0 -ℤ pos ((first - 251) * 256 + second + 108)

-- 247 to 254: a whole number with one byte more
abbrev pub middle_number : ℕ → List ℕ → Option (CharStringNumber × List ℕ)
middle_number first [] = None
middle_number first (second ∷ rest) =
    -- no byte
    if nat_le 256 second then None
    else if nat_lt first 251 then Some (Integer (pos ((first - 247) * 256 + second + 108)), rest)
    else Some (Integer (pos 0 -ℤ pos ((first - 251) * 256 + second + 108)), rest)

-- the number at the front, and the bytes after it; none where no number is there or it is cut short
unfoldable pub number_at : List ℕ → Option (CharStringNumber × List ℕ)
number_at [] = None
number_at (first ∷ rest) =
    if first == 28 then short_number rest
    else if nat_lt first 32 then None
    else if nat_lt first 247 then Some (Integer (pos first -ℤ pos 139), rest)
    else if nat_lt first 255 then middle_number first rest
    else fixed_number rest

-- the same number among those of a DICT and of a charstring
abbrev pub as_number : CharStringNumber → numbers.Number
as_number (Integer v) = numbers.Integer v
as_number (Fixed k) = numbers.Fixed k

abbrev pub charstring_number_at : List ℕ → Option (numbers.Number × List ℕ)
charstring_number_at bytes = option_map (λ x. (as_number x.0, x.1)) (number_at bytes)

-- a whole number of two bytes
abbrev pub written_short : ℕ → List ℕ
written_short bits = 28 ∷ bits / 256 ∷ bits % 256 ∷ []

-- a number's bytes: an integer in its shortest form, a Fixed always in five bytes
unfoldable pub written : CharStringNumber → List ℕ
written (Integer (pos n)) =
    if nat_lt n 108 then (n + 139) ∷ []
    else if nat_lt n 1132 then ((n - 108) / 256 + 247) ∷ ((n - 108) % 256) ∷ []
    else written_short n
-- this is -(n + 1)
written (Integer (negsuc n)) =
    if nat_lt n 107 then (138 - n) ∷ []
    else if nat_lt n 1131 then ((n - 107) / 256 + 251) ∷ ((n - 107) % 256) ∷ []
    else written_short (cast_unsigned w16 (negsuc n))
written (Fixed k) =
    let bits = cast_unsigned w32 k in
    255 ∷ bits / 16777216 ∷ (bits / 65536 % 256) ∷ (bits / 256 % 256) ∷ bits % 256 ∷ []

-- the number where it has no fraction
unfoldable pub whole_of : CharStringNumber → Option ℤ
whole_of (Integer v) = Some v
whole_of (Fixed (pos n)) = if n % 65536 == 0 then Some (pos (n / 65536)) else None
whole_of (Fixed (negsuc n)) =
    if (n + 1) % 65536 == 0 then Some (pos 0 -ℤ pos ((n + 1) / 65536)) else None

-- the numbers that a charstring can hold: 16 bits, or 32 bits of 65536ths
abbrev pub NumberFits : CharStringNumber → Type 0
NumberFits (Integer v) = FitsSigned w16 v
NumberFits (Fixed k) = FitsSigned w32 k

-- what is read, if anything, is such a number
abbrev pub FitsIn : Option (CharStringNumber × List ℕ) → Type 0
FitsIn None = Unit {0}
FitsIn (Some r) = NumberFits r.0

-- a number that is written is read again, whatever follows it
abbrev pub IsReadAgain : CharStringNumber → Type 0
IsReadAgain number = (rest : List ℕ) → number_at (written number ++ rest) ≡ Some (number, rest)
