-- The exact value of a number, as a decimal (Technical Note 5176, section 4 "DICT Data"; Technical Note 5177, section
-- 3.2 "Charstring Number Encoding").
use Rattle.std.specs.Prelude.{◌*◌, ℤ, pos, negsuc, ◌+ℤ◌, if◌then◌else◌, List, [], ◌∷◌, Option, Some, None, unsigned_abs}
use Rattle.std.specs.Option.{option_map}
use Rattle.std.specs.Int.{is_negative}
use Rattle.std.specs.Int.Digits.{digits_of}
use Rattle.subsetter_base.specs.Options.{◌>>=◌}
use Rattle.subsetter_cffdata.specs.Reals.Decimals.{Decimal, is_zero, decimal}
use Rattle.subsetter_cffdata.specs.Numerals.Numbers.{Number, Integer, Real, Fixed, in_i32}

abbrev pub integer_value : ℤ → Decimal
integer_value z = decimal (is_negative z) (digits_of 10 (unsigned_abs z)) (pos 0)

-- k / 65536, which is k * 5 ^ 16 / 10 ^ 16
abbrev pub fixed_value : ℤ → Decimal
fixed_value k = decimal (is_negative k) (digits_of 10 (unsigned_abs k * 152587890625)) (negsuc 15)

abbrev pub value : Number → Decimal
value (Integer z) = integer_value z
value (Real d) = d
value (Fixed k) = fixed_value k

-- the value times a thousand
abbrev pub thousandfold : Decimal → Decimal
thousandfold d = if is_zero d.mantissa then d else record { mantissa = d.mantissa; power = d.power +ℤ pos 3 }

-- where the power of ten fits in 32 bits
abbrev pub held : Decimal → Option Decimal
held d = option_map (λ power. record { mantissa = d.mantissa; power = power }) (in_i32 d.power)

-- a thousand times a number, as a real
unfoldable pub thousand : Number → Option Number
thousand x = option_map Real (held (thousandfold (value x)))

-- a matrix whose first four entries are a thousand times as great, all six as reals
unfoldable pub by_1000 : List Number → Option (List Number)
by_1000 (a ∷ b ∷ c ∷ d ∷ e ∷ f ∷ []) =
    thousand a >>= λ a'. thousand b >>= λ b'. thousand c >>= λ c'. thousand d >>= λ d'.
    Some (a' ∷ b' ∷ c' ∷ d' ∷ Real (value e) ∷ Real (value f) ∷ [])
by_1000 _ = None
