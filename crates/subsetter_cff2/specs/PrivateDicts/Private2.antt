-- Font dicts, private dicts and local subroutines (OpenType, "CFF2": "Font DICT Data", "Private DICT Data",
-- "Local/Global Subrs INDEXes").
use Rattle.std.specs.Prelude.{ℕ, ◌-◌, List, [], drop, Option, Some, None}
use Rattle.subsetter_base.specs.Bytes.{range}
use Rattle.subsetter_base.specs.Options.{◌>>=◌}
use Rattle.subsetter_cffdata.specs.Dicts.Dict.{Entry, entries}
use Rattle.subsetter_cffdata.specs.Numerals.Numbers.{Number}
use Rattle.subsetter_cffdata.specs.Dicts.Operands.{range_operands}
use Rattle.subsetter_type2.specs.Subroutines.{entry_at}
use Rattle.subsetter_cff.specs.Read.Entries.Lookup.{last_of}
use Rattle.subsetter_cff.specs.Read.Entries.Operators.{private_operator, subroutines_operator}
use Rattle.subsetter_cff2.specs.Cff2.{Cff2, wide_index, optional_offset}
use Rattle.subsetter_cff2.specs.Selection.Select.{selected}

-- the bytes of a private dict, and its local subroutines
pub record Private2 : Type 0 where
  pub dict : List ℕ
  pub subroutines : List (Option (List ℕ))

abbrev pub no_private : Private2
no_private = record { dict = []; subroutines = [] }

-- the INDEX at an offset, where there is an offset
abbrev pub index_if : List ℕ → Option ℕ → Option (List (Option (List ℕ)))
index_if bytes None = Some []
index_if bytes (Some offset) = wide_index bytes offset

-- what the last subroutine entry leads to, from the private dict's start on; none where it has other operands, or no
-- INDEX can be read
abbrev pub subroutines_by : List ℕ → Option (List Number) → Option (List (Option (List ℕ)))
subroutines_by bytes said = optional_offset said >>= index_if bytes

-- the private dict of a range of the table; none where the range leaves the table, or the subroutines are outside or
-- unreadable
unfoldable pub private_in : List ℕ → ℕ × ℕ → Option Private2
private_in bytes place = do
  dict ← range bytes place.0 (place.1 - place.0)
  subroutines ← subroutines_by (drop place.0 bytes) (last_of subroutines_operator (entries dict))
  Some (record { dict = dict; subroutines = subroutines })

-- of an entry's operands; where there is no entry, the private dict is empty
abbrev pub private_by : List ℕ → Option (List Number) → Option Private2
private_by bytes None = Some no_private
private_by bytes (Some xs) = range_operands xs >>= private_in bytes

-- the private dict that a font dict names
unfoldable pub private_at : List ℕ → List Entry → Option Private2
private_at bytes dict = private_by bytes (last_of private_operator dict)

-- the private dict of the font dict of a number; none where there is no such font dict, or it is unreadable
unfoldable pub private_numbered : Cff2 → ℕ → Option Private2
private_numbered cff number = entry_at cff.dicts number >>= λ dict. private_at cff.bytes (entries dict)

-- the number of a glyph's font dict
abbrev pub font_dict_number : Cff2 → ℕ → Option ℕ
font_dict_number cff glyph = selected cff.bytes cff.select glyph

-- a glyph's private dict
abbrev pub private_of : Cff2 → ℕ → Option Private2
private_of cff glyph = font_dict_number cff glyph >>= private_numbered cff

-- a glyph's charstring; none where it is missing or unreadable
abbrev pub char_string : Cff2 → ℕ → Option (List ℕ)
char_string cff glyph = entry_at cff.charstrings glyph
