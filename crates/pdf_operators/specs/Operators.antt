-- The operators that show a run, as they are written (ISO 32000-1, 9.3.7, 9.4.3, 14.6 and 14.9.4).
use Rattle.std.specs.Prelude.{ℕ, ◌+◌, ◌*◌, ◌/◌, ◌%◌, ◌==◌, ◌&&◌, not, nat_lt, Bool, if◌then◌else◌, List, [], ◌∷◌, ◌++◌}
use Rattle.std.specs.Prelude.{map, codes, decimal, Option, Some, None, ℤ, pos, unsigned_abs}
use Rattle.std.specs.Fmt.{signed_decimal}
use Rattle.std.specs.List.{flat_map}
use Rattle.std.specs.Ordering.{int_eq}
use Rattle.subsetter_base.specs.Remap.{index_by}
use Rattle.subsetter_base.specs.Texts.{utf16}
use Rattle.pdf_text.specs.Cmaps.Cmap.{hex_string, word}
use Rattle.pdf_text.specs.Numbers.{sign}
use Rattle.pdf_runs.specs.declared.codes.Pair.{Pair}
use Rattle.pdf_runs.specs.declared.items.Item.{Item}
use Rattle.pdf_runs.specs.Clusters.{lists}
use Rattle.pdf_runs.specs.Codes.{same}
use Rattle.pdf_runs.specs.Items.{text_of}
use Rattle.pdf_operators.specs.declared.operations.OpenArray.{OpenArray}
use Rattle.pdf_operators.specs.declared.operations.Operation.{Operation}
use Rattle.pdf_operators.specs.declared.operations.Operation.TheVariants.{Begin, End, Rise, Show, Back}

-- the code of a pair, or 0 where it has none
abbrev pub or_zero : Option ℕ → ℕ
or_zero None = 0
or_zero (Some n) = n

abbrev pub code_of : List Pair → Pair → ℕ
code_of pairs q = or_zero (index_by same pairs q)

-- the text of clusters
abbrev pub text_of_all : List (List Item) → List ℕ
text_of_all cs = flat_map text_of cs

-- a text in UTF-16
abbrev pub units_of : List ℕ → List ℕ
units_of cs = flat_map utf16 cs

-- ---- numbers

-- the last three digits
abbrev pub three_digits : ℕ → List ℕ
three_digits n = (48 + n / 100 % 10) ∷ (48 + n / 10 % 10) ∷ (48 + n % 10) ∷ []

-- n millionths, with six digits after the point, or three, or none and no point, as few as say them
abbrev pub fraction : ℕ → List ℕ
fraction n =
    if n == 0 then []
    else if n % 1000 == 0 then 46 ∷ three_digits (n / 1000)
    else 46 ∷ (three_digits (n / 1000) ++ three_digits n)

-- the sign of a number, and n millionths
abbrev pub millionths : ℤ → ℕ → List ℕ
millionths z n = sign z ++ (decimal (n / 1000000) ++ fraction (n % 1000000))

-- the rise of z thousandths of the em, at a font size of `size` thousandths
abbrev pub rise_text : ℕ → ℤ → List ℕ
rise_text size z = millionths z (unsigned_abs z * size)

-- ---- what operators say

pub data Act : Type 0 where
  begin : List ℕ → Act
  finish : Act
  raise : ℤ → Act
  show : ℤ → Pair → Act
  back : ℤ → Act

abbrev pub act_of : Operation → Act
act_of (Begin cs) = begin (text_of_all (lists cs.now))
act_of End = finish
act_of (Rise z) = raise z
act_of (Show z q) = show z q
act_of (Back z) = back z

abbrev pub acts_of : List Operation → List Act
acts_of ops = map act_of ops

-- ---- one of them, after what is open

-- no array is open
abbrev pub shut : OpenArray
shut = record { strings = 0; codes = 0 }

-- the string ends, and the array
abbrev pub closing : OpenArray → List ℕ
closing o = if o.codes == 0 then [] else codes ">]TJ\n"

abbrev pub number_text : ℤ → List ℕ
number_text z = if int_eq z (pos 0) then [] else signed_decimal z

-- an array and its string begin, the number before it
abbrev pub opening : ℤ → List ℕ
opening z = codes "[" ++ (number_text z ++ codes "<")

-- the string ends, and after a number another one begins
abbrev pub further : ℤ → List ℕ
further z = codes ">" ++ (signed_decimal z ++ codes "<")

-- the code goes into the string, which has at most 32,767 bytes (Annex C)
abbrev pub is_joined : OpenArray → ℤ → Bool
is_joined o z = nat_lt 0 o.codes && (nat_lt o.codes 16383 && int_eq z (pos 0))

-- it goes into another string of the array, which has at most 8,191 elements (Annex C): 4,095 strings, a number before
-- each, and one at the end
abbrev pub is_further : OpenArray → ℤ → Bool
is_further o z = nat_lt 0 o.codes && (nat_lt o.strings 4095 && not (int_eq z (pos 0)))

abbrev pub leading : OpenArray → ℤ → List ℕ
leading o z = if is_joined o z then [] else if is_further o z then further z else closing o ++ opening z

-- before a number at the end of the array, or in an array of its own
abbrev pub last : OpenArray → ℕ
last o = if o.codes == 0 then 91 else 62

abbrev pub span_text : List ℕ → List ℕ
span_text text = codes "/Span << /ActualText " ++ (hex_string (65279 ∷ units_of text) ++ codes " >> BDC\n")

abbrev pub act_text : ℕ → List Pair → OpenArray → Act → List ℕ
act_text size pairs o (begin text) = closing o ++ span_text text
act_text size pairs o finish = closing o ++ codes "EMC\n"
act_text size pairs o (raise z) = closing o ++ (rise_text size z ++ codes " Ts\n")
act_text size pairs o (show z q) = leading o z ++ word (code_of pairs q)
act_text size pairs o (back z) = last o ∷ (signed_decimal z ++ codes "]TJ\n")

abbrev pub open_after_code : OpenArray → ℤ → OpenArray
open_after_code o z =
    if is_joined o z then record { strings = o.strings; codes = o.codes + 1 }
    else if is_further o z then record { strings = o.strings + 1; codes = 1 }
    else record { strings = 1; codes = 1 }

abbrev pub open_after : OpenArray → Act → OpenArray
open_after o (show z q) = open_after_code o z
open_after o act = shut

abbrev pub written : ℕ → List Pair → OpenArray → List Act → List ℕ
written size pairs o [] = closing o
written size pairs o (act ∷ acts) = act_text size pairs o act ++ written size pairs (open_after o act) acts

-- ---- all

abbrev pub operators : ℕ → List Pair → List Act → List ℕ
operators size pairs acts = written size pairs shut acts
