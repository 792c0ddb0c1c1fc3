-- The numbers of a DICT and of a charstring.
use Rattle.std.specs.Prelude.{ℕ, ◌+◌, ◌-◌, ◌*◌, ◌/◌, ◌%◌, Bool, false, length, FitsSigned, ℤ, pos, negsuc, neg_ℤ, ◌-ℤ◌}
use Rattle.std.specs.Prelude.{◌==◌, nat_lt, if◌then◌else◌, List, [], ◌∷◌, Option, Some, None}
use Rattle.std.specs.Int.{w16, w32, cast_signed, cast_unsigned, to_be_bytes}
use Rattle.subsetter_cffdata.specs.Bytes.{card}
use Rattle.subsetter_base.specs.Options.{◌>>=◌}
use Rattle.subsetter_base.specs.Bytes.{byte}
use Rattle.subsetter_cffdata.specs.Reals.Decimals.{Decimal, HasText, real_at, real_text, packed, whole, text_limit}

-- A number with its kind: an integer, an exact decimal, or a Fixed in 65536ths.
pub data Number : Type 0 where
  Integer : ℤ → Number
  Real : Decimal → Number
  Fixed : ℤ → Number

-- ---- reading: the number whose first byte is b
-- 32 to 246 mean themselves less 139; 247 to 250 and 251 to 254 have one more byte, and no byte is 256 or more
unfoldable pub short_integer : ℕ → List ℕ → Option (ℤ × List ℕ)
short_integer b bytes =
    if nat_lt b 32 then None else
    (if nat_lt b 247 then Some (pos b -ℤ pos 139, bytes) else
    (if nat_lt b 251
    then (byte bytes >>= λ low. if nat_lt low.0 256 then Some (pos ((b - 247) * 256 + low.0 + 108), low.1)
    else None)
    else
    (if nat_lt b 255
    then (byte bytes >>= λ low. if nat_lt low.0 256
    then Some (neg_ℤ (pos ((b - 251) * 256 + low.0 + 108)), low.1)
    else None)
    else None)))

-- two and four bytes in two's complement
unfoldable pub signed16 : List ℕ → Option (ℤ × List ℕ)
signed16 bytes = card 2 bytes >>= λ n. Some (cast_signed w16 n.0, n.1)

unfoldable pub signed32 : List ℕ → Option (ℤ × List ℕ)
signed32 bytes = card 4 bytes >>= λ n. Some (cast_signed w32 n.0, n.1)

-- 28 has two bytes more, 29 four
unfoldable pub integer_from : ℕ → List ℕ → Option (ℤ × List ℕ)
integer_from b bytes =
    if b == 28 then signed16 bytes else
    (if b == 29 then signed32 bytes else short_integer b bytes)

unfoldable pub dict_number_from : ℕ → List ℕ → Option (Number × List ℕ)
dict_number_from b bytes =
    if b == 30 then (real_at bytes >>= λ d. Some (Real d.0, d.1))
    else (integer_from b bytes >>= λ z. Some (Integer z.0, z.1))

abbrev pub at_front : {X : Type 0} → (ℕ → List ℕ → Option (X × List ℕ)) → List ℕ → Option (X × List ℕ)
at_front from bytes = byte bytes >>= λ b. from b.0 b.1

abbrev pub integer_at : List ℕ → Option (ℤ × List ℕ)
integer_at bytes = at_front integer_from bytes

-- a real begins with byte 30
unfoldable pub real_from : ℕ → List ℕ → Option (Decimal × List ℕ)
real_from b bytes = if b == 30 then real_at bytes else None

abbrev pub real_number_at : List ℕ → Option (Decimal × List ℕ)
real_number_at bytes = at_front real_from bytes

-- a Fixed begins with byte 255, and has four bytes more
unfoldable pub fixed_from : ℕ → List ℕ → Option (ℤ × List ℕ)
fixed_from b bytes = if b == 255 then signed32 bytes else None

abbrev pub fixed_number_at : List ℕ → Option (ℤ × List ℕ)
fixed_number_at bytes = at_front fixed_from bytes

abbrev pub dict_number_at : List ℕ → Option (Number × List ℕ)
dict_number_at bytes = at_front dict_number_from bytes

-- ---- writing
-- an integer in the first form that holds it: of one byte, of two, of three, of five
unfoldable pub integer : ℤ → List ℕ
integer (pos n) =
    if nat_lt n 108 then (n + 139) ∷ [] else
    (if nat_lt n 1132 then ((n - 108) / 256 + 247) ∷ ((n - 108) % 256) ∷ [] else
    (if nat_lt n 32768 then 28 ∷ to_be_bytes w16 n else 29 ∷ to_be_bytes w32 n))
integer (negsuc m) =
    let n = m + 1 in
    if nat_lt n 108 then (139 - n) ∷ [] else
    (if nat_lt n 1132 then ((n - 108) / 256 + 251) ∷ ((n - 108) % 256) ∷ [] else
    (if nat_lt m 32768 then 28 ∷ to_be_bytes w16 (cast_unsigned w16 (negsuc m))
    else 29 ∷ to_be_bytes w32 (cast_unsigned w32 (negsuc m))))

-- an offset or a length: always five bytes, so that its value doesn't move what follows
abbrev pub offset : ℕ → List ℕ
offset n = 29 ∷ to_be_bytes w32 n

-- a Fixed: 255 and four bytes
abbrev pub fixed : ℤ → List ℕ
fixed k = 255 ∷ to_be_bytes w32 (cast_unsigned w32 k)

abbrev pub number : Number → List ℕ
number (Integer z) = integer z
number (Real d) = 30 ∷ packed (real_text d)
number (Fixed k) = fixed k

-- what can be written into a DICT
abbrev pub FitsDict : Number → Type 0
FitsDict (Integer z) = FitsSigned w32 z
FitsDict (Real d) = HasText d
FitsDict (Fixed k) = ⊥

-- a real whose text is longer than the limit
abbrev pub is_too_long : Number → Bool
is_too_long (Integer z) = false
is_too_long (Real d) = nat_lt text_limit (length (real_text d))
is_too_long (Fixed k) = false

-- ---- the whole number that a number is
-- the Fixed k / 65536, where it has no fraction
abbrev pub whole_fixed : ℤ → Option ℤ
whole_fixed (pos n) = if n % 65536 == 0 then Some (pos (n / 65536)) else None
whole_fixed (negsuc n) = if (n + 1) % 65536 == 0 then Some (neg_ℤ (pos ((n + 1) / 65536))) else None

-- the value, where it has no fraction
abbrev pub whole_number : Number → Option ℤ
whole_number (Integer z) = Some z
whole_number (Real d) = whole d
whole_number (Fixed k) = whole_fixed k

-- at least -2147483648 and at most 2147483647
unfoldable pub in_i32 : ℤ → Option ℤ
in_i32 (pos n) = if nat_lt n 2147483648 then Some (pos n) else None
in_i32 (negsuc n) = if nat_lt n 2147483648 then Some (negsuc n) else None

abbrev pub not_negative : ℤ → Option ℕ
not_negative (pos n) = Some n
not_negative (negsuc n) = None

-- of a real, and of a Fixed
abbrev pub real_as_i32 : Decimal → Option ℤ
real_as_i32 d = whole d >>= in_i32

abbrev pub fixed_as_i32 : ℤ → Option ℤ
fixed_as_i32 k = whole_fixed k >>= in_i32

-- as a signed and as an unsigned number of 32 bits
unfoldable pub as_i32 : Number → Option ℤ
as_i32 x = whole_number x >>= in_i32

unfoldable pub as_u32 : Number → Option ℕ
as_u32 x = as_i32 x >>= not_negative
