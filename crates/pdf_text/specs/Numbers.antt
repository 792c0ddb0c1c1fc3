-- Numbers as PDF writes them (ISO 32000-1, 7.3.3).
use Rattle.std.specs.Prelude.{ℕ, ◌+◌, ◌/◌, ◌%◌, ◌==◌, if◌then◌else◌, List, [], ◌∷◌, ◌++◌, map, codes, decimal, ℤ}
use Rattle.std.specs.Prelude.{unsigned_abs}
use Rattle.std.specs.Fmt.{signed_decimal}
use Rattle.std.specs.Int.{is_negative}
use Rattle.std.specs.List.{join_with_byte}

-- integers with one space (32) between each two
abbrev pub integers : List ℤ → List ℕ
integers zs = join_with_byte 32 (map signed_decimal zs)

-- a point (46) and the digits of fewer than 1,000 thousandths, without the zeros at their end
abbrev pub fraction : ℕ → List ℕ
fraction n =
    if n == 0 then []
    else if n % 100 == 0 then 46 ∷ (48 + n / 100) ∷ []
    else if n % 10 == 0 then 46 ∷ (48 + n / 100) ∷ (48 + n / 10 % 10) ∷ []
    else 46 ∷ (48 + n / 100) ∷ (48 + n / 10 % 10) ∷ (48 + n % 10) ∷ []

abbrev pub sign : ℤ → List ℕ
sign z = if is_negative z then codes "-" else []

-- z thousandths, as a number
abbrev pub thousandths : ℤ → List ℕ
thousandths z = sign z ++ (decimal (unsigned_abs z / 1000) ++ fraction (unsigned_abs z % 1000))
