-- Real numbers of a DICT: exact decimals, and their text.
use Rattle.std.specs.Prelude.{◌≡◌, ℕ, suc, ◌+◌, ◌-◌, ◌*◌, ◌/◌, ◌%◌, ◌^◌, ◌<◌, ◌≤◌, IsTrue, ℤ, pos, negsuc, neg_ℤ, ◌+ℤ◌}
use Rattle.std.specs.Prelude.{◌-ℤ◌, ◌*ℤ◌, Bool, true, false, ◌&&◌, ◌==◌, nat_lt, nat_le, if◌then◌else◌, List, [], ◌∷◌}
use Rattle.std.specs.Prelude.{◌++◌, take, drop, length, replicate, Option, Some, None, unsigned_abs}
use Rattle.std.specs.Option.{option_map}
use Rattle.std.specs.Int.{is_negative}
use Rattle.std.specs.Int.Digits.{number_from_digits, digits_with_fuel}
use Rattle.subsetter_base.specs.Options.{◌>>=◌}

-- mantissa * 10 ^ power. The mantissa is no multiple of ten, or both are 0.
pub record Decimal : Type 0 where
  pub mantissa : ℤ
  pub power : ℤ

abbrev pub is_zero : ℤ → Bool
is_zero z = unsigned_abs z == 0

abbrev pub is_normal : Decimal → Bool
is_normal d = if is_zero d.mantissa then is_zero d.power else nat_lt 0 (unsigned_abs d.mantissa % 10)

-- ---- the characters of a text: 0 to 9 the digits, and these
abbrev pub point : ℕ
point = 10

abbrev pub exponent_mark : ℕ
exponent_mark = 11

abbrev pub minus : ℕ
minus = 14

abbrev pub is_digit : ℕ → Bool
is_digit c = nat_lt c 10

-- ---- what a text means
-- the digits in front, and what follows them
abbrev pub digits : List ℕ → List ℕ
digits [] = []
digits (c ∷ text) = if is_digit c then c ∷ digits text else []

abbrev pub after_digits : List ℕ → List ℕ
after_digits [] = []
after_digits (c ∷ text) = if is_digit c then after_digits text else c ∷ text

abbrev pub number : List ℕ → ℕ
number ds = number_from_digits 10 ds

-- whether a minus is in front, and what follows
abbrev pub sign : List ℕ → Bool × List ℕ
sign [] = (false, [])
sign (c ∷ text) = if c == minus then (true, text) else (false, c ∷ text)

abbrev pub signed : Bool → ℕ → ℤ
signed negative n = if negative then neg_ℤ (pos n) else pos n

-- the digits after a point, and what follows
abbrev pub fraction : List ℕ → List ℕ × List ℕ
fraction [] = ([], [])
fraction (c ∷ text) = if c == point then (digits text, after_digits text) else ([], c ∷ text)

-- a number of at most 999
abbrev pub small_number : List ℕ → Option ℕ
small_number ds = if nat_le (number ds) 999 then Some (number ds) else None

-- at least one digit, to the end
abbrev pub exponent_value : Bool → List ℕ → Option ℤ
exponent_value negative text =
    if length (digits text) == 0 then None else
    (if length (after_digits text) == 0 then option_map (signed negative) (small_number (digits text)) else None)

-- nothing, or the mark, an optional minus and digits to the end, at most 999
abbrev pub exponent : List ℕ → Option ℤ
exponent [] = Some (pos 0)
exponent (c ∷ text) = if c == exponent_mark then exponent_value (sign text).0 (sign text).1 else None

-- without the zeros at the end
abbrev pub trimmed : List ℕ → List ℕ
trimmed [] = []
trimmed (d ∷ ds) = let rest = trimmed ds in if (d == 0) && (length rest == 0) then [] else d ∷ rest

-- without the zeros in front
abbrev pub stripped : List ℕ → List ℕ
stripped [] = []
stripped (d ∷ ds) = if d == 0 then stripped ds else d ∷ ds

-- digits in the form in which a decimal has just one: no zero in front or at the end, and 0 has neither sign nor power
pub record IsPlain (negative : Bool) (ds : List ℕ) (power : ℤ) : Type 0 where
  pub digits_only : digits ds ≡ ds
  pub front : stripped ds ≡ ds
  pub back : trimmed ds ≡ ds
  pub no_sign : length ds ≡ 0 → negative ≡ false
  pub no_power : length ds ≡ 0 → power ≡ pos 0

-- the digits times a power of ten
abbrev pub decimal : Bool → List ℕ → ℤ → Decimal
decimal negative ds power =
    let kept = trimmed ds in
    if number kept == 0 then record { mantissa = pos 0; power = pos 0 }
    else record { mantissa = signed negative (number kept); power = power +ℤ pos (length ds - length kept) }

-- digits with at most one point, at least one digit, an exponent
unfoldable pub unsigned_real : Bool → List ℕ → Option Decimal
unsigned_real negative text =
    let f = fraction (after_digits text) in
    let ds = digits text ++ f.0 in
    if length (digits text) + length f.0 == 0 then None
    else option_map (λ e. decimal negative ds (e -ℤ pos (length f.0))) (exponent f.1)

-- an optional minus in front
unfoldable pub real_of : List ℕ → Option Decimal
real_of text = let s = sign text in unsigned_real s.0 s.1

-- ---- the nibbles of a text, and f at the end
abbrev pub characters : ℕ → Option (List ℕ)
characters nibble =
    if nibble == 13 then None else (if nibble == 12 then Some (exponent_mark ∷ minus ∷ []) else Some (nibble ∷ []))

-- a text with characters in front
abbrev pub with_text : List ℕ → Option (List ℕ × List ℕ) → Option (List ℕ × List ℕ)
with_text front o = o >>= λ t. Some (front ++ t.0, t.1)

-- the characters up to the end, where f is the high or the low nibble
unfoldable pub text_at : List ℕ → Option (List ℕ × List ℕ)
text_at [] = None
text_at (b ∷ bytes) =
    if b / 16 == 15 then Some ([], bytes) else (characters (b / 16) >>= λ high. with_text high (
    if b % 16 == 15 then Some ([], bytes) else (characters (b % 16) >>= λ low. with_text low (text_at bytes))))

abbrev pub text_limit : ℕ
text_limit = 64

-- the real after a byte 30
unfoldable pub real_at : List ℕ → Option (Decimal × List ℕ)
real_at bytes =
    text_at bytes >>= λ t. if nat_le (length t.0) text_limit then (real_of t.0 >>= λ d. Some (d, t.1)) else None

-- ---- the text that is written
-- the digits with k of them after the point
abbrev pub pointed : List ℕ → ℕ → List ℕ
pointed ds k =
    if nat_lt k (length ds) then take (length ds - k) ds ++ point ∷ drop (length ds - k) ds
    else 0 ∷ point ∷ (replicate (k - length ds) 0 ++ ds)

abbrev pub unsigned_text : List ℕ → ℤ → List ℕ
unsigned_text [] power = 0 ∷ []
unsigned_text (d ∷ ds) (pos k) = (d ∷ ds) ++ replicate k 0
unsigned_text (d ∷ ds) (negsuc k) = pointed (d ∷ ds) (suc k)

-- The digits of n, the highest first, none for 0. A text has at most 64 characters, so 65 digits are as many as are
-- requested.
unfoldable pub decimal_digits : ℕ → List ℕ
decimal_digits n = digits_with_fuel 10 65 n

abbrev pub signs : Bool → List ℕ
signs negative = if negative then minus ∷ [] else []

unfoldable pub real_text : Decimal → List ℕ
real_text d = signs (is_negative d.mantissa) ++ unsigned_text (decimal_digits (unsigned_abs d.mantissa)) d.power

-- two characters to a byte, then f, and a second f where the low half is free
abbrev pub packed : List ℕ → List ℕ
packed [] = 255 ∷ []
packed (c ∷ []) = (16 * c + 15) ∷ []
packed (c ∷ d ∷ text) = (16 * c + d) ∷ packed text

-- ---- the whole number that a decimal is, if it is one
abbrev pub whole : Decimal → Option ℤ
whole d = elim d.power [ pos k ↦ Some (d.mantissa *ℤ pos (10 ^ k)) | negsuc k ↦ None ]

-- what has a text: the mantissa is no multiple of ten, or both are 0, and the text isn't longer than the limit
pub record HasText (d : Decimal) : Type 0 where
  pub normal : IsTrue (is_normal d)
  pub size : unsigned_abs d.mantissa < 10 ^ 64
  pub length_fits : length (real_text d) ≤ text_limit
