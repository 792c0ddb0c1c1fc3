-- The parts of a CFF table (Technical Note 5176, section 2 "Data Layout"): header, Name INDEX, Top DICT INDEX, String
-- INDEX, Global Subr INDEX, one after the other; the rest is found by offsets from the table's start.
use Rattle.std.specs.Prelude.{ℕ, ◌-◌, ◌==◌, if◌then◌else◌, Bool, List, ◌∷◌, take, drop, length, is_some, Option, Some}
use Rattle.std.specs.Prelude.{None}
use Rattle.std.specs.Option.{option_map}
use Rattle.subsetter_base.specs.Options.{◌>>=◌}
use Rattle.subsetter_cffdata.specs.Indexes.Index.{index_at}
use Rattle.subsetter_cffdata.specs.Dicts.Dict.{Entry, entries}
use Rattle.subsetter_cffdata.specs.Dicts.Operands.{offset_operand}
use Rattle.subsetter_type2.specs.Subroutines.{entry_at}
use Rattle.subsetter_cff.specs.Read.Entries.Lookup.{last_of}
use Rattle.subsetter_cff.specs.Read.Entries.Operators.{registry_operator, char_strings_operator}
use Rattle.subsetter_base.specs.Bytes.{first_number}

-- ---- in the order of the bytes
-- what is after the header, whose third byte says how long it is (section 6 "Header")
unfoldable pub past_header : List ℕ → Option (List ℕ)
past_header (major ∷ minor ∷ size ∷ bytes) = Some (drop size (major ∷ minor ∷ size ∷ bytes))
past_header _ = None

-- section 7 "Name INDEX"
unfoldable pub name_index : List ℕ → Option (List (Option (List ℕ)) × List ℕ)
name_index bytes = past_header bytes >>= index_at

-- section 8 "Top DICT INDEX"
unfoldable pub top_index : List ℕ → Option (List (Option (List ℕ)) × List ℕ)
top_index bytes = name_index bytes >>= λ names. index_at names.1

-- section 10 "String INDEX"
unfoldable pub string_index : List ℕ → Option (List (Option (List ℕ)) × List ℕ)
string_index bytes = top_index bytes >>= λ tops. index_at tops.1

-- the Global Subr INDEX (section 16 "Local/Global Subrs INDEXes")
unfoldable pub subroutine_index : List ℕ → Option (List (Option (List ℕ)) × List ℕ)
subroutine_index bytes = string_index bytes >>= λ strings. index_at strings.1

-- the first entry of the Top DICT INDEX is the top dict (section 9 "Top DICT Data")
unfoldable pub top_dict : List ℕ → Option (List Entry)
top_dict bytes = top_index bytes >>= λ tops. option_map entries (entry_at tops.0 0)

-- of bytes, those before what is left
abbrev pub before : List ℕ → List ℕ → List ℕ
before bytes left = take (length bytes - length left) bytes

-- the bytes of the Name INDEX, as they are
unfoldable pub name_bytes : List ℕ → Option (List ℕ)
name_bytes bytes = past_header bytes >>= λ start. name_index bytes >>= λ names. Some (before start names.1)

-- ---- a table of major version 1
pub record Cff : Type 0 where
  -- the whole table
  pub bytes : List ℕ
  -- the Name INDEX as it is
  pub names : List ℕ
  pub top : List Entry
  pub strings : List (Option (List ℕ))
  pub subroutines : List (Option (List ℕ))

unfoldable pub cff_parts : List ℕ → Option Cff
cff_parts bytes = do
  version ← first_number bytes
  names ← name_bytes bytes
  top ← top_dict bytes
  strings ← string_index bytes
  subroutines ← subroutine_index bytes
  if version == 1
      then Some (record { bytes = bytes; names = names; top = top; strings = strings.0; subroutines = subroutines.0 })
      else None

-- ---- what the top dict leads to
-- the bytes from the offset on that an operator of the top dict names
unfoldable pub at_offset : Cff → List ℕ → Option (List ℕ)
at_offset cff operator = last_of operator cff.top >>= offset_operand >>= λ offset. Some (drop offset cff.bytes)

-- a font whose top dict has ROS is CID-keyed (section 18 "CID-keyed Fonts")
abbrev pub is_cid_keyed : Cff → Bool
is_cid_keyed cff = is_some (last_of registry_operator cff.top)

-- the entries of the CharStrings INDEX, one for each glyph (section 14 "CharStrings INDEX")
unfoldable pub char_strings : Cff → Option (List (Option (List ℕ)))
char_strings cff = at_offset cff char_strings_operator >>= λ bytes. option_map (λ index. index.0) (index_at bytes)

-- a glyph's charstring; none where it is missing or unreadable
abbrev pub char_string : Cff → ℕ → Option (List ℕ)
char_string cff glyph = char_strings cff >>= λ all. entry_at all glyph
