-- How the CFF table of a subset is laid out (Technical Note 5176): always CID-keyed, without subroutines. It has a
-- header, Name INDEX, Top DICT INDEX, String INDEX and Global Subr INDEX (section 2 "Data Layout"); then charset,
-- private dicts, FDSelect, FDArray and CharStrings, which the top dict leads to by offsets.
use Rattle.std.specs.Prelude.{ℕ, pos, ◌+◌, ◌-◌, nat_lt, if◌then◌else◌, List, [], ◌∷◌, ◌++◌, length, map, codes}
use Rattle.std.specs.Prelude.{unwrap_or, Option, Some, None}
use Rattle.std.specs.Int.{w16, to_be_bytes}
use Rattle.std.specs.List.{flat_map}
use Rattle.std.specs.Option.{option_map}
use Rattle.std.specs.Str.{bytes_eq}
use Rattle.subsetter_base.specs.Remap.{with_value, index_by}
use Rattle.subsetter_cffdata.specs.Indexes.Index.{index}
use Rattle.subsetter_cffdata.specs.Dicts.Dict.{Long, NewEntry, dict, Entry}
use Rattle.subsetter_cffdata.specs.Dicts.Plain.{plain_entry}
use Rattle.subsetter_cffdata.specs.Numerals.Numbers.{Number, Integer}
use Rattle.subsetter_cff.specs.Read.Entries.Operators.{notice_operator, font_box_operator, charset_operator}
use Rattle.subsetter_cff.specs.Read.Entries.Operators.{char_strings_operator, private_operator, copyright_operator}
use Rattle.subsetter_cff.specs.Read.Entries.Operators.{font_matrix_operator, registry_operator, cid_count_operator}
use Rattle.subsetter_cff.specs.Read.Entries.Operators.{font_dicts_operator, font_dict_select_operator}
use Rattle.subsetter_cff.specs.Read.Entries.Operators.{font_name_operator}
use Rattle.subsetter_cff.specs.Read.Strings.{FontString, Standard, Custom, standard_strings}

-- ---- what a table is laid out for
-- a font dict with its private dict
pub record FontDict : Type 0 where
  pub matrix : List Number
  pub private : List Entry
  pub name : Option FontString

-- the first font dict for all glyphs, or the number of one for each glyph
pub data Select : Type 0 where
  First : Select
  Numbers : List ℕ → Select

pub record Parts : Type 0 where
  -- the Name INDEX as it is
  pub names : List ℕ
  pub copyright : Option FontString
  pub notice : Option FontString
  pub font_name : Option FontString
  pub matrix : List Number
  pub box : List Number
  pub font_dicts : List FontDict
  pub select : Select
  pub char_strings : List (List ℕ)

-- ---- strings (section 10 "String INDEX")
abbrev pub custom_string : Option FontString → List (List ℕ)
custom_string (Some (Custom s)) = s ∷ []
custom_string (Some (Standard n)) = []
custom_string None = []

-- the strings of the source that are no standard strings, in the order in which they are numbered
abbrev pub given_strings : Parts → List (List ℕ)
given_strings p =
    custom_string p.copyright
    ++ (custom_string p.font_name
    ++ (custom_string p.notice ++ flat_map (λ (f : FontDict). custom_string f.name) p.font_dicts))

-- Adobe and Identity of ROS come first
abbrev pub named_strings : Parts → List (List ℕ)
named_strings p = codes "Adobe" ∷ codes "Identity" ∷ given_strings p

abbrev pub with_strings : List (List ℕ) → List (List ℕ) → List (List ℕ)
with_strings found [] = found
with_strings found (s ∷ more) = with_strings (with_value bytes_eq found s) more

-- the String INDEX: each string once
unfoldable pub strings : Parts → List (List ℕ)
strings p = with_strings [] (named_strings p)

-- the number of a string: a standard one's own, or its place from 391 on
abbrev pub number_of : List (List ℕ) → FontString → ℕ
number_of strings (Standard n) = n
number_of strings (Custom s) = standard_strings + unwrap_or (index_by bytes_eq strings s) 0

-- ---- entries of dicts: operands and an operator (section 4 "DICT Data")
abbrev pub integer : ℕ → Number
integer n = Integer (pos n)

abbrev pub number_entries : List ℕ → Option ℕ → List NewEntry
number_entries operator None = []
number_entries operator (Some n) = plain_entry operator (integer n ∷ []) ∷ []

abbrev pub string_entries : List (List ℕ) → List ℕ → Option FontString → List NewEntry
string_entries strings operator o = number_entries operator (option_map (number_of strings) o)

-- an offset is always written in five bytes
abbrev pub offset_entry : List ℕ → ℕ → NewEntry
offset_entry operator place = record { operator = operator; operands = Long place ∷ [] }

-- registry, ordering and supplement: Adobe, Identity, 0, the first two strings
abbrev pub registry_entry : NewEntry
registry_entry = plain_entry registry_operator (integer 391 ∷ integer 392 ∷ integer 0 ∷ [])

-- ---- the parts after the top dict, as bytes
-- Glyph 0 isn't in the charset. The others have their own number as CID, in one range of format 2 (section 13
-- "Charsets").
unfoldable pub charset_bytes : ℕ → List ℕ
charset_bytes glyphs = if nat_lt glyphs 2 then 0 ∷ [] else 2 ∷ (to_be_bytes w16 1 ++ to_be_bytes w16 (glyphs - 2))

-- one range of all glyphs in format 3, or a byte for each in format 0 (section 19 "FDSelect")
unfoldable pub select_bytes : ℕ → Select → List ℕ
select_bytes glyphs First = 3 ∷ (to_be_bytes w16 1 ++ (to_be_bytes w16 0 ++ (0 ∷ to_be_bytes w16 glyphs)))
select_bytes glyphs (Numbers numbers) = 0 ∷ numbers

-- the entries of a private dict, as they are (section 15 "Private DICT Data")
abbrev pub rewritten_entries : List Entry → List NewEntry
rewritten_entries es = map (λ (e : Entry). plain_entry e.operator e.operands) es

unfoldable pub private_bytes : FontDict → List ℕ
private_bytes f = dict (rewritten_entries f.private)

abbrev pub privates : List FontDict → List ℕ
privates fs = flat_map private_bytes fs

abbrev pub private_entry : ℕ → ℕ → NewEntry
private_entry size place = record { operator = private_operator; operands = Long size ∷ Long place ∷ [] }

-- a font dict with the number of its name, whose private dict, with its size, is at a place (section 18 "CID-keyed
-- Fonts")
unfoldable pub entries_of_font_dict_by : List Number → ℕ → ℕ → Option ℕ → List NewEntry
entries_of_font_dict_by matrix size place name =
    plain_entry font_matrix_operator matrix ∷ private_entry size place ∷ number_entries font_name_operator name

abbrev pub entries_of_font_dict : List (List ℕ) → ℕ → FontDict → List NewEntry
entries_of_font_dict strings place f =
    entries_of_font_dict_by f.matrix (length (private_bytes f)) place (option_map (number_of strings) f.name)

-- font dicts whose private dicts follow one another from a place on
abbrev pub font_dicts_from : List (List ℕ) → ℕ → List FontDict → List (List ℕ)
font_dicts_from strings place [] = []
font_dicts_from strings place (f ∷ fs) =
    dict (entries_of_font_dict strings place f) ∷ font_dicts_from strings (place + length (private_bytes f)) fs

-- ---- the whole
-- where the parts are that the top dict names
pub record Offsets : Type 0 where
  pub charset : ℕ
  pub char_strings : ℕ
  pub font_dicts : ℕ
  pub select : ℕ

abbrev pub placed_entries : Offsets → List NewEntry
placed_entries o =
    offset_entry charset_operator o.charset ∷ offset_entry char_strings_operator o.char_strings
    ∷ plain_entry cid_count_operator (integer 65535 ∷ [])
    ∷ offset_entry font_dicts_operator o.font_dicts ∷ offset_entry font_dict_select_operator o.select ∷ []

-- what the top dict says: numbers of strings, matrix and box (section 9 "Top DICT Data")
pub record TopDict : Type 0 where
  pub copyright : Option ℕ
  pub notice : Option ℕ
  pub font_name : Option ℕ
  pub matrix : List Number
  pub box : List Number

unfoldable pub top_entries_by : TopDict → Offsets → List NewEntry
top_entries_by t o =
    registry_entry ∷ (number_entries copyright_operator t.copyright ++ (number_entries notice_operator t.notice
    ++ (number_entries font_name_operator t.font_name
    ++ (plain_entry font_matrix_operator t.matrix ∷ plain_entry font_box_operator t.box ∷ placed_entries o))))

abbrev pub top_of : Parts → TopDict
top_of p = record {
  copyright = option_map (number_of (strings p)) p.copyright;
  notice = option_map (number_of (strings p)) p.notice;
  font_name = option_map (number_of (strings p)) p.font_name;
  matrix = p.matrix;
  box = p.box;
}

abbrev pub top_entries : Parts → Offsets → List NewEntry
top_entries p o = top_entries_by (top_of p) o

-- version 1.0, a header of four bytes, offsets of four bytes (section 6 "Header")
abbrev pub header : List ℕ
header = 1 ∷ 0 ∷ 4 ∷ 4 ∷ []

-- up to the charset: the Global Subr INDEX is empty
unfoldable pub front : Parts → Offsets → List ℕ
front p o = header ++ (p.names ++ (index (dict (top_entries p o) ∷ []) ++ (index (strings p) ++ index [])))

abbrev pub charset_of : Parts → List ℕ
charset_of p = charset_bytes (length p.char_strings)

abbrev pub select_of : Parts → List ℕ
select_of p = select_bytes (length p.char_strings) p.select

-- any places do for the front's length
abbrev pub nowhere : Offsets
nowhere = record { charset = 0; char_strings = 0; font_dicts = 0; select = 0 }

abbrev pub charset_offset : Parts → ℕ
charset_offset p = length (front p nowhere)

abbrev pub privates_offset : Parts → ℕ
privates_offset p = charset_offset p + length (charset_of p)

abbrev pub fd_select_offset : Parts → ℕ
fd_select_offset p = privates_offset p + length (privates p.font_dicts)

abbrev pub fd_array_offset : Parts → ℕ
fd_array_offset p = fd_select_offset p + length (select_of p)

unfoldable pub font_dicts_of : Parts → List ℕ
font_dicts_of p = index (font_dicts_from (strings p) (privates_offset p) p.font_dicts)

abbrev pub char_strings_offset : Parts → ℕ
char_strings_offset p = fd_array_offset p + length (font_dicts_of p)

abbrev pub table_offsets : Parts → Offsets
table_offsets p =
    record {
      charset = charset_offset p;
      char_strings = char_strings_offset p;
      font_dicts = fd_array_offset p;
      select = fd_select_offset p;
    }

abbrev pub past_front : Parts → List ℕ
past_front p = charset_of p ++ (privates p.font_dicts ++ (select_of p ++ (font_dicts_of p ++ index p.char_strings)))

unfoldable pub cff_table : Parts → List ℕ
cff_table p = front p (table_offsets p) ++ past_front p
