-- The faults that stop a subset in a CFF table, each with its error (Technical Note 5176).
use Rattle.std.specs.Prelude.{◌≡◌, ◌≢◌, ◌<◌, ◌-◌, ℕ, Contains, true, false, List, [], drop, length, Option, Some, None}
use Rattle.std.specs.Str.{bytes_eq}
use Rattle.subsetter_base.specs.declared.error.Error.{Error}
use Rattle.subsetter_base.specs.declared.error.Error.TheVariants.{MalformedFont, CFFError, SubsetError}
use Rattle.subsetter_base.specs.Bytes.{range, first_number}
use Rattle.subsetter_base.specs.Options.{◌>>=◌}
use Rattle.subsetter_cffdata.specs.Indexes.Index.{index_at}
use Rattle.subsetter_cffdata.specs.Numerals.Numbers.{Number}
use Rattle.subsetter_cffdata.specs.Dicts.Dict.{Entry, entries}
use Rattle.subsetter_cffdata.specs.Dicts.Operands.{string_operand, offset_operand, range_operands}
use Rattle.subsetter_type2.specs.Runs.Machine.{Stops, outcome}
use Rattle.subsetter_cff.specs.Read.Entries.Lookup.{last_of, first_of}
use Rattle.subsetter_cff.specs.Read.Strings.{string_of}
use Rattle.subsetter_cff.specs.Read.Cff.{Cff, name_index, top_index, string_index, subroutine_index, top_dict}
use Rattle.subsetter_cff.specs.Read.Cff.{cff_parts, char_strings, char_string, is_cid_keyed}
use Rattle.subsetter_cff.specs.Read.FdArray.FontDicts.{font_dicts, font_dict_select, font_dict_number, font_dict_of}
use Rattle.subsetter_cff.specs.Read.FdArray.Private.{Private, private_of}
use Rattle.subsetter_cff.specs.Read.GlyphTrace.{library}
use Rattle.subsetter_cff.specs.Read.Entries.Operators.{copyright_operator, notice_operator, font_name_operator}
use Rattle.subsetter_cff.specs.Read.Entries.Operators.{private_operator, subroutines_operator}
use Rattle.subsetter_cff.specs.Read.Entries.OperandDemands.{Demand, top_demands, font_dict_demands}

-- of the table's front (section 2 "Data Layout")
pub data HasFrontFault (bytes : List ℕ) : Error → Type 0 where
  -- the table has under 3 bytes
  short : length bytes < 3 → HasFrontFault bytes MalformedFont
  -- another version
  other_version : (b : ℕ) → first_number bytes ≡ Some b → b ≢ 1 → HasFrontFault bytes CFFError
  -- an INDEX of the front can't be read
  bad_names : name_index bytes ≡ None → HasFrontFault bytes MalformedFont
  bad_tops : top_index bytes ≡ None → HasFrontFault bytes MalformedFont
  bad_strings : string_index bytes ≡ None → HasFrontFault bytes MalformedFont
  bad_subroutines : subroutine_index bytes ≡ None → HasFrontFault bytes MalformedFont
  -- the Top DICT INDEX has no readable first entry
  no_top_dict : top_dict bytes ≡ None → HasFrontFault bytes MalformedFont

-- an entry, the last of its operator or an earlier one, has other operands than the operator demands
pub record HasWrongOperands (demands : List Demand) (es : List Entry) : Type 0 where
  pub entry : Entry
  pub inside : Contains es entry
  pub demand : Demand
  pub demanded : Contains demands demand
  pub operator : bytes_eq entry.operator demand.operator ≡ true
  pub wrong : demand.holds entry.operands ≡ false

-- a Private entry, the last one or an earlier one (section 15 "Private DICT Data" and section 16 "Local/Global Subrs
-- INDEXes")
pub data HasPrivateFault (bytes : List ℕ) (dict : List Entry) : Type 0 where
  -- names a range outside the table
  range_outside : (e : Entry) (place : ℕ × ℕ) → Contains dict e → bytes_eq e.operator private_operator ≡ true
      → range_operands e.operands ≡ Some place → range bytes place.0 (place.1 - place.0) ≡ None
      → HasPrivateFault bytes dict
  -- or the first Subrs entry of the private dict there leads to no readable INDEX, counted from the private dict's
  -- start
  no_subroutines : (e : Entry) (place : ℕ × ℕ) (private : List ℕ) (offset : ℕ) → Contains dict e
      → bytes_eq e.operator private_operator ≡ true → range_operands e.operands ≡ Some place
      → range bytes place.0 (place.1 - place.0) ≡ Some private
      → first_of subroutines_operator (entries private) >>= offset_operand ≡ Some offset
      → index_at (drop offset (drop place.0 bytes)) ≡ None
      → HasPrivateFault bytes dict

-- of what the top dict says and leads to (section 9 "Top DICT Data" and section 18 "CID-keyed Fonts")
pub data HasTopFault (cff : Cff) : Error → Type 0 where
  -- an entry has other operands than its operator demands
  wrong_operands : HasWrongOperands top_demands cff.top → HasTopFault cff MalformedFont
  -- there is no entry for charstrings, or their INDEX can't be read
  no_char_strings : char_strings cff ≡ None → HasTopFault cff MalformedFont
  -- or has no entries
  empty_char_strings : char_strings cff ≡ Some [] → HasTopFault cff MalformedFont
  -- a CID-keyed font without an FDArray or FDSelect that can be read
  no_font_dicts : is_cid_keyed cff ≡ true → font_dicts cff ≡ None → HasTopFault cff MalformedFont
  no_select : is_cid_keyed cff ≡ true → font_dict_select cff ≡ None → HasTopFault cff MalformedFont
  -- a font dict with other operands than are demanded
  bad_font_dict : (dicts : List (List Entry)) (dict : List Entry) → is_cid_keyed cff ≡ true
      → font_dicts cff ≡ Some dicts → Contains dicts dict → HasWrongOperands font_dict_demands dict
      → HasTopFault cff MalformedFont
  -- or with a Private entry that leads nowhere
  bad_private : (dicts : List (List Entry)) (dict : List Entry) → is_cid_keyed cff ≡ true → font_dicts cff ≡ Some dicts
      → Contains dicts dict → HasPrivateFault cff.bytes dict
      → HasTopFault cff MalformedFont

-- the last entry of an operator names a string number that has no readable string (section 10 "String INDEX")
pub record NamesNoString (strings : List (Option (List ℕ))) (operator : List ℕ) (es : List Entry) : Type 0 where
  pub operands : List Number
  pub operands_are : last_of operator es ≡ Some operands
  pub number : ℕ
  pub number_is : string_operand operands ≡ Some number
  pub no_string : string_of strings number ≡ None

-- the faults of a kept glyph
pub data HasGlyphFault (cff : Cff) (tokens depth glyph : ℕ) : Error → Type 0 where
  -- in a CID-keyed font, no font dict number, or no font dict of that number
  no_number : is_cid_keyed cff ≡ true → font_dict_number cff glyph ≡ None
      → HasGlyphFault cff tokens depth glyph MalformedFont
  no_font_dict : is_cid_keyed cff ≡ true → font_dict_of cff glyph ≡ None
      → HasGlyphFault cff tokens depth glyph MalformedFont
  no_char_string : char_string cff glyph ≡ None → HasGlyphFault cff tokens depth glyph MalformedFont
  -- its charstring stops with an error (Technical Note 5177)
  stops : (private : Private) (bytes : List ℕ) (e : Error) → private_of cff glyph ≡ Some private
      → char_string cff glyph ≡ Some bytes → outcome (library cff private) tokens depth bytes ≡ Stops e
      → HasGlyphFault cff tokens depth glyph e
  -- the name of its font dict is no readable string
  bad_name : (dict : List Entry) → is_cid_keyed cff ≡ true → font_dict_of cff glyph ≡ Some dict
      → NamesNoString cff.strings font_name_operator dict
      → HasGlyphFault cff tokens depth glyph SubsetError

-- of the top dict's strings that are kept
pub data HasStringFault (cff : Cff) : Error → Type 0 where
  bad_copyright : NamesNoString cff.strings copyright_operator cff.top → HasStringFault cff SubsetError
  bad_notice : NamesNoString cff.strings notice_operator cff.top → HasStringFault cff SubsetError
  bad_font_name : NamesNoString cff.strings font_name_operator cff.top → HasStringFault cff SubsetError

-- the faults of a table that can't be opened
pub data HasCffOpeningFault (bytes : List ℕ) : Error → Type 0 where
  in_front : {e : Error} → HasFrontFault bytes e → HasCffOpeningFault bytes e
  in_top : {e : Error} (cff : Cff) → cff_parts bytes ≡ Some cff → HasTopFault cff e → HasCffOpeningFault bytes e
