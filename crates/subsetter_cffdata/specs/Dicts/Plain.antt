-- Entries of whole numbers as they are written: each number in the first form that holds it (Technical Note 5176,
-- section 4 "DICT Data", table 3 "Operand Encoding").
use Rattle.std.specs.Prelude.{◌≡◌, ℕ, zero, suc, ◌+◌, ◌*◌, ◌≤◌, ℤ, FitsSigned, false, nat_lt, nat_le, ◌==◌}
use Rattle.std.specs.Prelude.{if◌then◌else◌, List, [], ◌∷◌, ◌++◌, length, map, Option, Some, None}
use Rattle.std.specs.Int.{w32}
use Rattle.std.specs.List.{list_any, AllByRecursion}
use Rattle.std.specs.Option.{option_map_or}
use Rattle.subsetter_cffdata.specs.Numerals.Numbers.{Number, integer, is_too_long}
use Rattle.subsetter_cffdata.specs.Dicts.Dict.{Plain, NewEntry, entry_bytes, is_operator, operand_limit, IsOperator}
use Rattle.subsetter_cffdata.specs.Dicts.Dict.{FitsOperand}

-- ---- reading: each gives what follows
-- two bytes after byte 28, whose number has no form of one or two bytes, and no byte is 256 or more
abbrev pub after_word : List ℕ → Option (List ℕ)
after_word (high ∷ low ∷ rest) =
    if nat_le 256 low then None
    else if nat_lt (high * 256 + low) 1132 then None
    else if nat_lt 64404 (high * 256 + low) then None
    else Some rest
after_word _ = None

-- the second byte after 247 to 254
abbrev pub after_second : List ℕ → Option (List ℕ)
after_second (second ∷ rest) = if nat_le 256 second then None else Some rest
after_second [] = None

-- a whole number in the first form that holds it; that of five bytes isn't looked for
unfoldable pub after_number : List ℕ → Option (List ℕ)
after_number (first ∷ rest) =
    if first == 28 then after_word rest
    else if nat_lt first 32 then None
    else if nat_lt first 247 then Some rest
    else if nat_lt first 255 then after_second rest
    else None
after_number [] = None

-- the byte after the mark 12
abbrev pub marked_operator : List ℕ → Option (List ℕ × List ℕ)
marked_operator (second ∷ rest) = Some (12 ∷ second ∷ [], rest)
marked_operator [] = None

-- an operator, and what follows it
unfoldable pub operator_at : List ℕ → Option (List ℕ × List ℕ)
operator_at (b ∷ rest) = if is_operator b then (if b == 12 then marked_operator rest else Some (b ∷ [], rest)) else None
operator_at [] = None

-- the operator after at most n such numbers, and what follows it
unfoldable pub plain_in : ℕ → List ℕ → Option (List ℕ × List ℕ)
plain_in zero bytes = operator_at bytes
plain_in (suc n) bytes = option_map_or (plain_in n) (after_number bytes) (operator_at bytes)

abbrev pub plain_at : List ℕ → Option (List ℕ × List ℕ)
plain_at bytes = plain_in operand_limit bytes

-- ---- what is read so
-- a whole number as it is written, and what follows it
pub record IsNumberAndRest (bytes rest : List ℕ) : Type 0 where
  pub value : ℤ
  pub fits : FitsSigned w32 value
  pub is : bytes ≡ integer value ++ rest

abbrev pub plain_entry : List ℕ → List Number → NewEntry
plain_entry operator numbers = record { operator = operator; operands = map Plain numbers }

-- an entry of at most `most` numbers as it is written, and what follows it
pub record IsEntryAndRest (most : ℕ) (operator bytes rest : List ℕ) : Type 0 where
  pub numbers : List Number
  pub operator_fits : IsOperator operator
  pub operands_fit : AllByRecursion FitsOperand (map Plain numbers)
  pub accepted : list_any is_too_long numbers ≡ false
  pub few : length numbers ≤ most
  pub is : bytes ≡ entry_bytes (plain_entry operator numbers) ++ rest
