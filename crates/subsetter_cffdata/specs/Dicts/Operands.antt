-- The operands that operators demand of a DICT's entry (Technical Note 5176, section 4 "DICT Data", table 6 "Operand
-- Types").
use Rattle.std.specs.Prelude.{ℕ, ◌+◌, ℤ, pos, negsuc, nat_lt, ◌==◌, if◌then◌else◌, List, [], ◌∷◌, take, length, Option}
use Rattle.std.specs.Prelude.{Some, None}
use Rattle.std.specs.Option.{option_map}
use Rattle.subsetter_base.specs.Options.{◌>>=◌}
use Rattle.subsetter_cffdata.specs.Numerals.Numbers.{Number, as_i32, as_u32}
use Rattle.subsetter_cffdata.specs.Dicts.Dict.{entry_at}

-- the operands of the entry in front, as many as are kept
unfoldable pub operands_at : ℕ → List ℕ → Option (List Number)
operands_at limit bytes = option_map (λ e. take limit e.0.operands) (entry_at bytes)

-- the number of a string: two bytes
abbrev pub string_number : ℤ → Option ℕ
string_number (pos n) = if nat_lt n 65536 then Some n else None
string_number (negsuc n) = None

-- one string number
unfoldable pub string_operand : List Number → Option ℕ
string_operand (x ∷ []) = as_i32 x >>= string_number
string_operand _ = None

-- one offset
unfoldable pub offset_operand : List Number → Option ℕ
offset_operand (x ∷ []) = as_u32 x
offset_operand _ = None

-- a length and an offset: where it begins and where it ends
unfoldable pub range_operands : List Number → Option (ℕ × ℕ)
range_operands (size ∷ offset ∷ []) = as_u32 size >>= λ n. as_u32 offset >>= λ start. Some (start, start + n)
range_operands _ = None

-- just `count` numbers
unfoldable pub just : ℕ → List Number → Option (List Number)
just count xs = if length xs == count then Some xs else None

-- ---- of the entry in front
abbrev pub string_at : ℕ → List ℕ → Option ℕ
string_at limit bytes = operands_at limit bytes >>= string_operand

abbrev pub offset_at : ℕ → List ℕ → Option ℕ
offset_at limit bytes = operands_at limit bytes >>= offset_operand

abbrev pub range_at : ℕ → List ℕ → Option (ℕ × ℕ)
range_at limit bytes = operands_at limit bytes >>= range_operands

abbrev pub numbers_at : ℕ → ℕ → List ℕ → Option (List Number)
numbers_at count limit bytes = operands_at limit bytes >>= just count
