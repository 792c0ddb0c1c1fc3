-- What a content stream says (ISO 32000-1, 7.8.2): strings and numbers of TJ, the text rise, and spans with an
-- ActualText.
use Rattle.std.specs.Prelude.{◌<◌, ℕ, ◌-◌, ◌+◌, ◌*◌, ◌^◌, ◌==◌, ◌&&◌, ◌||◌, nat_le, Bool, false, if◌then◌else◌, List}
use Rattle.std.specs.Prelude.{[], ◌∷◌, ◌++◌, map, length, All, option_to_list, codes, Option, Some, None, ℤ, pos}
use Rattle.std.specs.Prelude.{negsuc, neg_ℤ, unsigned_abs}
use Rattle.std.specs.List.{flat_map, slice_split}
use Rattle.std.specs.Option.{option_map}
use Rattle.std.specs.Ordering.{int_eq}
use Rattle.std.specs.Str.{all_ascii_digits, bytes_eq}
use Rattle.std.specs.Str.Parse.{digits_value}
use Rattle.pdf_text.specs.Cmaps.Cmap.{hex_in}
use Rattle.pdf_text.specs.Metrics.Columns.{integer_in}
use Rattle.pdf_text.specs.Tokens.{tokens}
use Rattle.pdf_runs.specs.declared.codes.Pair.{Pair}
use Rattle.pdf_operators.specs.Operators.{Act, back, begin, code_of, finish, raise, show, units_of}

pub data Mark : Type 0 where
  number : ℤ → Mark
  code : ℕ → Mark
  rise : ℤ → Mark
  actual : List ℕ → Mark
  ended : Mark

-- ---- tokens

-- a delimiter, apart from what is before it and after it (7.2.2); each of `<<` and `>>` is two tokens then
abbrev pub apart : ℕ → List ℕ
apart b =
    if b == 91 || b == 93 then 32 ∷ b ∷ 32 ∷ []
    else if b == 60 || b == 47 then 32 ∷ b ∷ []
    else if b == 62 then b ∷ 32 ∷ []
    else b ∷ []

abbrev pub tokens_in : List ℕ → List (List ℕ)
tokens_in text = tokens (flat_map apart text)

-- ---- operands

-- the millionths of a number with at most six digits after its point, if it has one (7.3.3)
abbrev pub fraction_in : List ℕ → List ℕ → Option ℤ
fraction_in whole rest =
    if all_ascii_digits whole && (all_ascii_digits rest && nat_le (length rest) 6)
    then Some (pos (1000000 * digits_value 10 whole + digits_value 10 rest * 10 ^ (6 - length rest)))
    else None

abbrev pub parts_in : List (List ℕ) → Option ℤ
parts_in (whole ∷ []) = fraction_in whole []
parts_in (whole ∷ rest ∷ []) = fraction_in whole rest
parts_in _ = None

abbrev pub unsigned_in : List ℕ → Option ℤ
unsigned_in t = parts_in (slice_split (λ b. b == 46) t)

abbrev pub real_in : List ℕ → Option ℤ
real_in [] = None
real_in (b ∷ t) = if b == 45 then option_map neg_ℤ (unsigned_in t) else unsigned_in (b ∷ t)

-- an element of an array: a string, which is cut into codes of two bytes (9.7.6.2), or a number
abbrev pub element_by : Option (List ℕ) → Option ℤ → List Mark
element_by (Some cs) z = map code cs
element_by None z = map number (option_to_list z)

abbrev pub element_in : List ℕ → List Mark
element_in t = element_by (hex_in t) (integer_in t)

-- a text after its byte order mark (7.9.2.2)
abbrev pub text_by : Option (List ℕ) → List Mark
text_by (Some (b ∷ us)) = if b == 65279 then actual us ∷ [] else []
text_by _ = []

-- of /Span << /ActualText <..> >>
abbrev pub actual_in : List (List ℕ) → List Mark
actual_in (tag ∷ first ∷ second ∷ key ∷ text ∷ close) =
    if bytes_eq key (codes "/ActualText") then text_by (hex_in text) else []
actual_in _ = []

abbrev pub rise_in : List (List ℕ) → List Mark
rise_in (t ∷ []) = map rise (option_to_list (real_in t))
rise_in _ = []

-- ---- operators

abbrev pub is_letter : ℕ → Bool
is_letter b = (nat_le 65 b && nat_le b 90) || (nat_le 97 b && nat_le b 122)

abbrev pub is_operator : List ℕ → Bool
is_operator [] = false
is_operator (b ∷ t) = is_letter b

-- an operator with its operands
abbrev pub said_by : List ℕ → List (List ℕ) → List Mark
said_by t operands =
    if bytes_eq t (codes "TJ") then flat_map element_in operands
    else if bytes_eq t (codes "Ts") then rise_in operands
    else if bytes_eq t (codes "BDC") then actual_in operands
    else if bytes_eq t (codes "EMC") then ended ∷ []
    else []

-- operands come before their operator
abbrev pub said_from : List (List ℕ) → List (List ℕ) → List Mark
said_from operands [] = []
said_from operands (t ∷ ts) =
    if is_operator t then said_by t operands ++ said_from [] ts else said_from (operands ++ t ∷ []) ts

-- what a content stream says, in order
abbrev pub said_in : List ℕ → List Mark
said_in text = said_from [] (tokens_in text)

-- ---- what operations say

abbrev pub numbers : ℤ → List Mark
numbers z = if int_eq z (pos 0) then [] else number z ∷ []

-- n millionths, with the sign of a number
abbrev pub sized : ℤ → ℕ → ℤ
sized (pos k) n = pos n
sized (negsuc k) n = neg_ℤ (pos n)

abbrev pub marks_of : ℕ → List Pair → Act → List Mark
marks_of size pairs (begin text) = actual (units_of text) ∷ []
marks_of size pairs finish = ended ∷ []
marks_of size pairs (raise z) = rise (sized z (unsigned_abs z * size)) ∷ []
marks_of size pairs (show z q) = numbers z ++ code (code_of pairs q) ∷ []
marks_of size pairs (back z) = number z ∷ []

-- what can be written: codes of two bytes, characters, and numbers of 64 bits
abbrev pub IsWritable : ℕ → List Pair → Act → Type 0
IsWritable size pairs (begin text) = All (λ c. c < 1114112) text
IsWritable size pairs finish = Unit
IsWritable size pairs (raise z) = unsigned_abs z * size < 2 ^ 64
IsWritable size pairs (show z q) = (unsigned_abs z < 2 ^ 64) × (code_of pairs q < 65536)
IsWritable size pairs (back z) = unsigned_abs z < 2 ^ 64
