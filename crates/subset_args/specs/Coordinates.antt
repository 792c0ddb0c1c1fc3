-- User coordinates on the axes of a variable font, as an argument writes them: `wght=650,wdth=87.5`.
use Rattle.std.specs.Prelude.{ℕ, ◌+◌, ◌-◌, ◌*◌, ◌/◌, ◌^◌, ◌==◌, ◌&&◌, nat_lt, Bool, if◌then◌else◌, List, [], ◌∷◌, length, Option}
use Rattle.std.specs.Prelude.{Some, None, ℤ, pos, negsuc, neg_ℤ}
use Rattle.std.specs.Option.{option_map, option_and_then}
use Rattle.std.specs.List.{slice_split, before_first, after_first, position_or_len}
use Rattle.std.specs.Str.{all_ascii_digits}
use Rattle.std.specs.Str.Parse.{digits_value}
use Rattle.subsetter_base.specs.declared.tag.Tag.{Tag}
use Rattle.subset_args.specs.Words.{number_in_bits, tag_of}

-- ---- a decimal number, in 65536ths

-- a number of parts of a unit
pub record Decimal : Type 0 where
  pub count : ℕ
  pub parts : ℕ

abbrev pub is_point : ℕ → Bool
is_point b = b == 46

abbrev pub is_minus : ℕ → Bool
is_minus b = b == 45

-- a text has a byte
abbrev pub has_byte : (ℕ → Bool) → List ℕ → Bool
has_byte test word = nat_lt (position_or_len test word) (length word)

abbrev pub with_parts : ℕ → ℕ → Decimal
with_parts count parts = record { count = count; parts = parts }

-- digits before the point, and one or more after it
abbrev pub with_digits : List ℕ → ℕ → Decimal
with_digits digits units = with_parts (units * 10 ^ length digits + digits_value 10 digits) (10 ^ length digits)

abbrev pub decimal_of : List ℕ → List ℕ → Option Decimal
decimal_of whole digits =
    if nat_lt 0 (length digits) && all_ascii_digits digits
    then option_map (with_digits digits) (number_in_bits 16 whole)
    else None

-- the same, or digits alone
abbrev pub size_in : List ℕ → Option Decimal
size_in word =
    if has_byte is_point word then decimal_of (before_first is_point word) (after_first is_point word)
    else option_map (λ units. with_parts units 1) (number_in_bits 16 word)

-- it fits 32 bits with a sign
abbrev pub in_32_bits : ℤ → Option ℤ
in_32_bits (pos n) = if nat_lt n (2 ^ 31) then Some (pos n) else None
in_32_bits (negsuc n) = if nat_lt n (2 ^ 31) then Some (negsuc n) else None

-- n of p equal parts, to the nearest whole number, halves up
unfoldable pub nearest_above : ℕ → ℕ → ℤ
nearest_above n p = pos ((2 * n + p) / (2 * p))

-- the same below zero
unfoldable pub nearest_below : ℕ → ℕ → ℤ
nearest_below n p = neg_ℤ (pos ((2 * n + (p - 1)) / (2 * p)))

-- after a minus, and without one: to the nearest 65536th
abbrev pub below_zero : List ℕ → Option ℤ
below_zero word = option_and_then (λ d. in_32_bits (nearest_below (d.count * 65536) d.parts)) (size_in word)

abbrev pub above_zero : List ℕ → Option ℤ
above_zero word = option_and_then (λ d. in_32_bits (nearest_above (d.count * 65536) d.parts)) (size_in word)

-- a minus may be first, and nowhere else
abbrev pub with_minus : List ℕ → List ℕ → Option ℤ
with_minus front following = if length front == 0 then below_zero following else None

abbrev pub value_in : List ℕ → Option ℤ
value_in word =
    if has_byte is_minus word then with_minus (before_first is_minus word) (after_first is_minus word)
    else above_zero word

-- ---- coordinates

abbrev pub is_equals : ℕ → Bool
is_equals b = b == 61

-- `wght=650`
abbrev pub coordinate_of : List ℕ → List ℕ → Option (Tag × ℤ)
coordinate_of name value = option_and_then (λ tag. option_map (λ v. (tag, v)) (value_in value)) (tag_of name)

abbrev pub coordinate_in : List ℕ → Option (Tag × ℤ)
coordinate_in part =
    if has_byte is_equals part then coordinate_of (before_first is_equals part) (after_first is_equals part) else None

-- each of the parts
abbrev pub coordinates_of : List (List ℕ) → Option (List (Tag × ℤ))
coordinates_of [] = Some []
coordinates_of (part ∷ parts) =
    option_and_then (λ c. option_map (λ more. c ∷ more) (coordinates_of parts)) (coordinate_in part)

-- with a comma (44) between each two; a text without bytes has none, which is the default
abbrev pub coordinates_in : List ℕ → Option (List (Tag × ℤ))
coordinates_in text = if length text == 0 then Some [] else coordinates_of (slice_split (λ b. b == 44) text)
