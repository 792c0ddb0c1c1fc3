-- Where a parser of a DICT is.
use Rattle.std.specs.Prelude.{◌≡◌, ℕ, List, [], take, drop, map, length, Option}
use Rattle.std.specs.Option.{option_map_or}
use Rattle.subsetter_cffdata.specs.declared.dicts.dict.DictionaryParser.{DictionaryParser}
use Rattle.subsetter_cffdata.specs.Numerals.Numbers.{Number}
use Rattle.subsetter_cffdata.specs.Dicts.Operands.{operands_at, string_at, offset_at, range_at, numbers_at}
use Rattle.subsetter_cffdata.specs.Views.{number_of}

-- the bytes after the entry
abbrev pub left : DictionaryParser → List ℕ
left p = drop p.offset p.data.now

-- the bytes from the entry on
abbrev pub entry_of : DictionaryParser → List ℕ
entry_of p = drop p.operands_offset p.data.now

-- the operands that were read
abbrev pub shown : DictionaryParser → List Number
shown p = map number_of (take p.operands_len p.operands.now)

-- the operands of the entry, as many as are kept; none where no entry can be read
abbrev pub operands_in : DictionaryParser → List Number
operands_in p = option_map_or (λ xs. xs) (operands_at (length p.operands.now) (entry_of p)) []

-- the operands of the entry are shown, and it is where it was
pub record ShowsEntry (old now : DictionaryParser) : Type 0 where
  pub shows : shown now ≡ operands_in old
  pub entry : entry_of now ≡ entry_of old
  pub following : left now ≡ left old
  pub same : now.data.now ≡ old.data.now
  pub room : length now.operands.now ≡ length old.operands.now

-- ---- what the entry's operands are, of as many as are kept
abbrev pub string_in : DictionaryParser → Option ℕ
string_in p = string_at (length p.operands.now) (entry_of p)

abbrev pub offset_in : DictionaryParser → Option ℕ
offset_in p = offset_at (length p.operands.now) (entry_of p)

abbrev pub range_in : DictionaryParser → Option (ℕ × ℕ)
range_in p = range_at (length p.operands.now) (entry_of p)

abbrev pub numbers_in : ℕ → DictionaryParser → Option (List Number)
numbers_in count p = numbers_at count (length p.operands.now) (entry_of p)
