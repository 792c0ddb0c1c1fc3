-- A coordinate of 65536ths as a decimal number.
use Rattle.std.specs.Prelude.{ℕ, ◌+◌, ◌*◌, ◌/◌, ◌%◌, ◌^◌, ◌-◌, ◌==◌, false, if◌then◌else◌, List, [], ◌++◌, codes}
use Rattle.std.specs.Prelude.{decimal, ℤ, pos, int_lt, unsigned_abs}
use Rattle.std.specs.Fmt.{digits, padded_integral, format_spec}

-- at least `width` digits
abbrev pub padded : ℕ → ℕ → List ℕ
padded width n = padded_integral (format_spec 32 0 4 width (2 ^ 64 - 1)) false [] (digits 10 false n)

-- 100000ths, with as many digits as they need
abbrev pub fraction : ℕ → List ℕ
fraction n =
    if n == 0 then []
    else if n % 10000 == 0 then codes "." ++ padded 1 (n / 10000)
    else if n % 1000 == 0 then codes "." ++ padded 2 (n / 1000)
    else if n % 100 == 0 then codes "." ++ padded 3 (n / 100)
    else if n % 10 == 0 then codes "." ++ padded 4 (n / 10)
    else codes "." ++ padded 5 n

-- what is left of a unit, to the nearest 100000th, halves up: as 65536 is less than 100000, each 65536th has a text of
-- its own, which is nearest to it
abbrev pub hundred_thousandths : ℕ → ℕ
hundred_thousandths n = (n % 65536 * 100000 + 32768) / 65536

abbrev pub size_text : ℕ → List ℕ
size_text n = decimal (n / 65536) ++ fraction (hundred_thousandths n)

abbrev pub sign_text : ℤ → List ℕ
sign_text v = if int_lt v (pos 0) then codes "-" else []

abbrev pub fixed_text : ℤ → List ℕ
fixed_text v = sign_text v ++ size_text (unsigned_abs v)
