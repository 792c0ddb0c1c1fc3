-- Numbers (RFC 8259, section 6): number = [ minus ] int [ frac ] [ exp ].
use Rattle.std.specs.Prelude.{ℕ, ◌==◌, ◌&&◌, ◌||◌, not, nat_lt, Bool, false, if◌then◌else◌, List, [], ◌∷◌, length}
use Rattle.std.specs.Prelude.{slice_index}
use Rattle.std.specs.List.{before_first, after_first}
use Rattle.std.specs.Str.{all_ascii_digits}
use Rattle.subset_args.specs.Coordinates.{has_byte}

-- whether a byte is this one
abbrev pub is_byte : ℕ → ℕ → Bool
is_byte byte b = b == byte

-- 1*DIGIT
abbrev pub is_digits : List ℕ → Bool
is_digits text = nat_lt 0 (length text) && all_ascii_digits text

-- int = zero / ( digit1-9 *DIGIT )
unfoldable pub is_int : List ℕ → Bool
is_int text = is_digits text && (length text == 1 || not (slice_index text 0 == 48))

-- int [ frac ], where frac = decimal-point 1*DIGIT
unfoldable pub is_decimal : List ℕ → Bool
is_decimal text =
    if has_byte (is_byte 46) text
    then is_int (before_first (is_byte 46) text) && is_digits (after_first (is_byte 46) text)
    else is_int text

-- after the e of exp = e [ minus / plus ] 1*DIGIT
abbrev pub is_sign : ℕ → Bool
is_sign b = b == 45 || b == 43

unfoldable pub is_exponent : List ℕ → Bool
is_exponent [] = false
is_exponent (b ∷ text) = if is_sign b then is_digits text else is_digits (b ∷ text)

-- int [ frac ] [ exp ], where e is %x65 / %x45
unfoldable pub is_unsigned : List ℕ → Bool
is_unsigned text =
    if has_byte (is_byte 101) text
    then is_decimal (before_first (is_byte 101) text) && is_exponent (after_first (is_byte 101) text)
    else if has_byte (is_byte 69) text
    then is_decimal (before_first (is_byte 69) text) && is_exponent (after_first (is_byte 69) text)
    else is_decimal text

unfoldable pub is_number : List ℕ → Bool
is_number [] = false
is_number (b ∷ text) = if b == 45 then is_unsigned text else is_unsigned (b ∷ text)
