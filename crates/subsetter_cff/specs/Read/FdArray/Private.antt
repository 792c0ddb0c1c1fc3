-- Private dicts and local subroutines (Technical Note 5176, section 15 "Private DICT Data" and section 16 "Local/Global
-- Subrs INDEXes").
use Rattle.std.specs.Prelude.{ℕ, ◌-◌, if◌then◌else◌, List, [], drop, unwrap_or, Option, Some, None}
use Rattle.std.specs.Option.{option_map}
use Rattle.subsetter_base.specs.Bytes.{range}
use Rattle.subsetter_base.specs.Options.{◌>>=◌}
use Rattle.subsetter_cffdata.specs.Numerals.Numbers.{Number}
use Rattle.subsetter_cffdata.specs.Indexes.Index.{index_at}
use Rattle.subsetter_cffdata.specs.Dicts.Dict.{Entry, entries}
use Rattle.subsetter_cffdata.specs.Dicts.Operands.{offset_operand, range_operands}
use Rattle.subsetter_cff.specs.Read.Entries.Lookup.{last_of, first_of, without}
use Rattle.subsetter_cff.specs.Read.Cff.{Cff, is_cid_keyed}
use Rattle.subsetter_cff.specs.Read.FdArray.FontDicts.{font_dict_of}
use Rattle.subsetter_cff.specs.Read.Entries.Operators.{private_operator, subroutines_operator}

-- the entries, and the subroutines that one of them leads to
pub record Private : Type 0 where
  pub entries : List Entry
  pub subroutines : List (Option (List ℕ))

abbrev pub no_private : Private
no_private = record { entries = []; subroutines = [] }

-- what the first subroutine entry leads to, from the private dict's start on; with wrong operands it means none
abbrev pub subroutines_by : List ℕ → Option ℕ → Option (List (Option (List ℕ)))
subroutines_by bytes None = Some []
subroutines_by bytes (Some offset) = option_map (λ index. index.0) (index_at (drop offset bytes))

unfoldable pub local_subroutines : List ℕ → List Entry → Option (List (Option (List ℕ)))
local_subroutines bytes es = subroutines_by bytes (first_of subroutines_operator es >>= offset_operand)

-- the private dict of a range of the table; none where the range leaves the table, or the subroutines are outside or
-- unreadable
unfoldable pub private_in : List ℕ → ℕ × ℕ → Option Private
private_in bytes place = do
  dict ← range bytes place.0 (place.1 - place.0)
  subroutines ← local_subroutines (drop place.0 bytes) (entries dict)
  Some (record { entries = entries dict; subroutines = subroutines })

-- of an entry's operands; where there is no entry, the private dict is empty
abbrev pub private_by : List ℕ → Option (List Number) → Option Private
private_by bytes None = Some no_private
private_by bytes (Some xs) = range_operands xs >>= private_in bytes

-- the private dict that a top dict or a font dict names
unfoldable pub private_at : List ℕ → List Entry → Option Private
private_at bytes dict = private_by bytes (last_of private_operator dict)

-- A glyph has the private dict of its font dict, in a font without font dicts that of the top dict; there an unreadable
-- one is empty.
unfoldable pub private_of : Cff → ℕ → Option Private
private_of cff glyph =
    if is_cid_keyed cff then (font_dict_of cff glyph >>= private_at cff.bytes)
    else Some (unwrap_or (private_at cff.bytes cff.top) no_private)

-- the entries but those that lead to subroutines
abbrev pub own_entries : Private → List Entry
own_entries p = without subroutines_operator p.entries

abbrev pub private_entries : Cff → ℕ → Option (List Entry)
private_entries cff glyph = option_map own_entries (private_of cff glyph)
