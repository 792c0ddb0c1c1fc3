-- The names of glyphs in a `CFF ` table (Technical Note 5176, sections 10 "String INDEX" and 13 "Charsets").
use Rattle.std.specs.Prelude.{ℕ, ◌-◌, nat_lt, if◌then◌else◌, List, [], length, get_or, slice_get, unwrap_or, Option}
use Rattle.std.specs.Prelude.{Some, None, Result, Ok, Err}
use Rattle.std.specs.Option.{option_map_or}
use Rattle.subsetter_base.specs.declared.error.Error.{Error}
use Rattle.subsetter_cff.specs.Read.Cff.{Cff, char_strings, is_cid_keyed}
use Rattle.subsetter_cff.specs.Read.Opened.{opened}
use Rattle.subsetter_cff.specs.Read.Entries.Operators.{charset_operator}
use Rattle.subsetter_cff.specs.Read.Entries.TopDicts.{last_offset}
use Rattle.subsetter_type2.specs.Subroutines.{entry_at}
use Rattle.glyph_names.specs.Charset.{sids_at}
use Rattle.glyph_names.specs.Standard.{standard_strings}

-- the string of an SID: one of the 391 standard strings, or an entry of the String INDEX; an empty one where it isn't
-- there
abbrev pub string_of : List (List ℕ) → List (Option (List ℕ)) → ℕ → List ℕ
string_of standard strings sid =
    if nat_lt sid 391 then get_or standard sid [] else unwrap_or (entry_at strings (sid - 391)) []

-- the string of a glyph, by the SIDs of the glyphs
abbrev pub string_by_sids : List (List ℕ) → List (Option (List ℕ)) → List ℕ → ℕ → List ℕ
string_by_sids standard strings sids glyph = option_map_or (string_of standard strings) (slice_get sids glyph) []

-- the SIDs of a table's glyphs; a CID-keyed font has CIDs in their place
abbrev pub sids_of : Cff → List ℕ
sids_of cff =
    if is_cid_keyed cff then []
    else sids_at cff.bytes (length (unwrap_or (char_strings cff) []))
    (unwrap_or (last_offset charset_operator cff.top) 0)

abbrev pub sids_of_opened : Result Cff Error → List ℕ
sids_of_opened (Ok cff) = sids_of cff
sids_of_opened (Err e) = []

abbrev pub strings_of_opened : Result Cff Error → List (Option (List ℕ))
strings_of_opened (Ok cff) = cff.strings
strings_of_opened (Err e) = []

-- the name of a glyph; an empty one where there is none
unfoldable pub cff_name : List ℕ → ℕ → List ℕ
cff_name cff glyph =
    string_by_sids standard_strings (strings_of_opened (opened cff)) (sids_of_opened (opened cff)) glyph
