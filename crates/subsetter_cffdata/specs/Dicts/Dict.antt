-- A DICT: entries, each its operands and then its operator.
use Rattle.std.specs.Prelude.{◌≡◌, ◌≢◌, ℕ, zero, suc, ◌<◌, ◌≤◌, IsTrue, Bool, ◌==◌, ◌||◌, nat_lt, if◌then◌else◌, List}
use Rattle.std.specs.Prelude.{[], ◌∷◌, ◌++◌, take, length, map, pos, ◌^◌, Option, Some, None}
use Rattle.std.specs.Option.{option_map_or}
use Rattle.std.specs.List.{flat_map, AllByRecursion}
use Rattle.subsetter_base.specs.Options.{◌>>=◌}
use Rattle.subsetter_base.specs.Bytes.{byte}
use Rattle.subsetter_cffdata.specs.Numerals.Numbers.{Number, Integer, FitsDict, dict_number_from, number, offset}

-- the bytes of an operator, and its operands
pub record Entry : Type 0 where
  pub operator : List ℕ
  pub operands : List Number

-- 0 to 27, 31 and 255 begin an operator
abbrev pub is_operator : ℕ → Bool
is_operator b = nat_lt b 28 || ((b == 31) || (b == 255))

-- 12 is a prefix, with one byte more
abbrev pub operator_from : ℕ → List ℕ → Option (List ℕ × List ℕ)
operator_from b bytes =
    if b == 12 then (byte bytes >>= λ second. Some (12 ∷ second.0 ∷ [], second.1)) else Some (b ∷ [], bytes)

-- a DICT's tokens
pub data Token : Type 0 where
  Operand : Number → Token
  Operator : List ℕ → Token

unfoldable pub token_at : List ℕ → Option (Token × List ℕ)
token_at bytes = byte bytes >>= λ b.
    if is_operator b.0 then (operator_from b.0 b.1 >>= λ o. Some (Operator o.0, o.1))
    else (dict_number_from b.0 b.1 >>= λ x. Some (Operand x.0, x.1))

-- Operands up to an operator. Each step takes at least a byte, so as many steps as bytes are enough.
unfoldable pub entry_in : ℕ → List ℕ → Option (Entry × List ℕ)
entry_in zero bytes = None
entry_in (suc steps) [] = None
entry_in (suc steps) (b ∷ bytes) =
    if is_operator b then (operator_from b bytes >>= λ o. Some (record { operator = o.0; operands = [] }, o.1))
    else (dict_number_from b bytes >>= λ x. entry_in steps x.1
    >>= λ e. Some (record { operator = e.0.operator; operands = x.0 ∷ e.0.operands }, e.1))

unfoldable pub entry_at : List ℕ → Option (Entry × List ℕ)
entry_at bytes = entry_in (length bytes) bytes

abbrev pub operand_limit : ℕ
operand_limit = 48

abbrev pub limited : Entry → Entry
limited e = record { operator = e.operator; operands = take operand_limit e.operands }

-- the entries before the first place that can't be read
unfoldable pub entries_in : ℕ → List ℕ → List Entry
entries_in zero bytes = []
entries_in (suc steps) bytes = option_map_or (λ e. limited e.0 ∷ entries_in steps e.1) (entry_at bytes) []

unfoldable pub entries : List ℕ → List Entry
entries bytes = entries_in (length bytes) bytes

-- ---- writing
-- An operand as it is written: a number in its first form, or an offset in five bytes, whatever its value.
pub data Written : Type 0 where
  Plain : Number → Written
  Long : ℕ → Written

abbrev pub operand : Written → List ℕ
operand (Plain x) = number x
operand (Long n) = offset n

abbrev pub value : Written → Number
value (Plain x) = x
value (Long n) = Integer (pos n)

pub record NewEntry : Type 0 where
  pub operator : List ℕ
  pub operands : List Written

abbrev pub entry_bytes : NewEntry → List ℕ
entry_bytes l = flat_map operand l.operands ++ l.operator

abbrev pub dict : List NewEntry → List ℕ
dict ls = flat_map entry_bytes ls

-- what an entry means
abbrev pub meaning : NewEntry → Entry
meaning l = record { operator = l.operator; operands = map value l.operands }

-- the bytes of an operator: one, or 12 and one more
abbrev pub IsOperator : List ℕ → Type 0
IsOperator [] = ⊥
IsOperator (b ∷ []) = IsTrue (is_operator b) × (b ≢ 12)
IsOperator (b ∷ c ∷ []) = b ≡ 12
IsOperator (b ∷ c ∷ d ∷ more) = ⊥

abbrev pub FitsOperand : Written → Type 0
FitsOperand (Plain x) = FitsDict x
FitsOperand (Long n) = n < 2 ^ 31

-- what can be written, and is read again with all its operands
pub record FitsNewEntry (l : NewEntry) : Type 0 where
  pub operator : IsOperator l.operator
  pub operands : AllByRecursion FitsOperand l.operands
  pub few : length l.operands ≤ operand_limit
