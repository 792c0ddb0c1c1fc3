-- Worked examples, computed: a table with one glyph, its source, and one with a private dict.
use Rattle.std.proofs.Common.{◌≡◌, ℕ, List, [], ◌∷◌, Some, None, refl}
use Rattle.std.specs.Prelude.{pos}
use Rattle.subsetter_cffdata.specs.Bytes.{card, part}
use Rattle.subsetter_base.specs.Bytes.{byte}
use Rattle.subsetter_cffdata.specs.Reals.Decimals.{decimal_digits, real_text}
use Rattle.subsetter_cffdata.specs.Numerals.Numbers.{Integer, integer, as_i32, as_u32, in_i32, integer_from, short_integer, dict_number_from}
use Rattle.subsetter_cffdata.specs.Indexes.Index.{index, header, index_data, index_body, index_of}
use Rattle.subsetter_cffdata.specs.Dicts.Dict.{entry_in, entry_at, entries_in, entries}
use Rattle.subsetter_cffdata.specs.Dicts.Operands.{offset_operand, range_operands, string_operand}
use Rattle.subsetter_cff.specs.Read.Entries.Lookup.{last_of}
use Rattle.subsetter_cff.specs.Read.Strings.{Standard, string_of, string_at}
use Rattle.subsetter_cff.specs.Read.Cff.{Cff, past_header, name_index, top_index, string_index, subroutine_index, top_dict, name_bytes, cff_parts, at_offset, char_strings}
use Rattle.subsetter_cff.specs.Read.Charset.{in_ranges as in_charset_ranges, in_format, in_charset}
use Rattle.subsetter_cff.specs.Read.FdArray.FontDicts.{Ranges, Each, in_ranges, selected, select_at}
use Rattle.subsetter_cff.specs.Read.FdArray.Private.{local_subroutines, private_in, private_at, private_of}
use Rattle.subsetter_cff.specs.Read.Entries.Matrices.{thousandth_matrix, unit_matrix, stated_matrices}
use Rattle.subsetter_cff.specs.Read.Entries.Operators.{notice_operator, font_matrix_operator}
use Rattle.subsetter_cff.specs.Write.Laying.Layout.{Parts, First, strings, charset_bytes, select_bytes, private_bytes, entries_of_font_dict_by, top_entries_by, front, font_dicts_of as written_font_dicts, cff_table}

-- one glyph, no strings of its own, an empty private dict
abbrev smallest : Parts
smallest = record {
  names = 0 ∷ 1 ∷ 1 ∷ 1 ∷ 2 ∷ 0x41 ∷ [];
  copyright = None;
  notice = None;
  font_name = None;
  matrix = thousandth_matrix;
  box = Integer (pos 0) ∷ Integer (pos 0) ∷ Integer (pos 0) ∷ Integer (pos 0) ∷ [];
  font_dicts = record { matrix = unit_matrix; private = []; name = None } ∷ [];
  select = First;
  char_strings = (14 ∷ []) ∷ [];
}

abbrev pub smallest_bytes : List ℕ
smallest_bytes =
    1 ∷ 0 ∷ 4 ∷ 4 ∷ 0 ∷ 1 ∷ 1 ∷ 1 ∷ 2 ∷ 0x41 ∷ 0 ∷ 1 ∷ 1 ∷ 1 ∷ 0x3C ∷ 0xF8 ∷ 0x1B ∷ 0xF8 ∷ 0x1C ∷ 0x8B ∷ 0x0C ∷ 0x1E ∷ 0x1E ∷ 0x0A ∷ 0 ∷ 0x1F ∷ 0x8B ∷ 0x8B ∷ 0x1E ∷ 0x0A ∷ 0 ∷ 0x1F ∷ 0x8B ∷ 0x8B ∷ 0x0C ∷ 7 ∷ 0x8B ∷ 0x8B ∷ 0x8B ∷ 0x8B ∷ 5 ∷ 0x1D ∷ 0 ∷ 0 ∷ 0 ∷ 0x5F ∷ 0x0F ∷ 0x1D ∷ 0 ∷ 0 ∷ 0 ∷ 0x80 ∷ 0x11 ∷ 0x1D ∷ 0 ∷ 0 ∷ 0xFF ∷ 0xFF ∷ 0x0C ∷ 0x22 ∷ 0x1D ∷ 0 ∷ 0 ∷ 0 ∷ 0x68 ∷ 0x0C ∷ 0x24 ∷ 0x1D ∷ 0 ∷ 0 ∷ 0 ∷ 0x60 ∷ 0x0C ∷ 0x25 ∷ 0 ∷ 2 ∷ 1 ∷ 1 ∷ 6 ∷ 0x0E ∷ 0x41 ∷ 0x64 ∷ 0x6F ∷ 0x62 ∷ 0x65 ∷ 0x49 ∷ 0x64 ∷ 0x65 ∷ 0x6E ∷ 0x74 ∷ 0x69 ∷ 0x74 ∷ 0x79 ∷ 0 ∷ 0 ∷ 0 ∷ 3 ∷ 0 ∷ 1 ∷ 0 ∷ 0 ∷ 0 ∷ 0 ∷ 1 ∷ 0 ∷ 1 ∷ 1 ∷ 1 ∷ 0x14 ∷ 0x8C ∷ 0x8B ∷ 0x8B ∷ 0x8C ∷ 0x8B ∷ 0x8B ∷ 0x0C ∷ 7 ∷ 0x1D ∷ 0 ∷ 0 ∷ 0 ∷ 0 ∷ 0x1D ∷ 0 ∷ 0 ∷ 0 ∷ 0x60 ∷ 0x12 ∷ 0 ∷ 1 ∷ 1 ∷ 1 ∷ 2 ∷ 0x0E ∷ []

laid_out : cff_table smallest ≡ smallest_bytes
unfolding cff_table front top_entries_by strings charset_bytes select_bytes private_bytes entries_of_font_dict_by written_font_dicts index header integer real_text decimal_digits
laid_out = refl

-- a SID-keyed source: 27 bytes, CharStrings at 21
abbrev pub source : List ℕ
source = 1 ∷ 0 ∷ 4 ∷ 1 ∷ 0 ∷ 1 ∷ 1 ∷ 1 ∷ 2 ∷ 0x41 ∷ 0 ∷ 1 ∷ 1 ∷ 1 ∷ 3 ∷ 0xA0 ∷ 0x11 ∷ 0 ∷ 0 ∷ 0 ∷ 0 ∷ 0 ∷ 1 ∷ 1 ∷ 1 ∷ 2 ∷ 0x0E ∷ []

source_read : cff_parts source ≡ Some (record { bytes = source; names = 0 ∷ 1 ∷ 1 ∷ 1 ∷ 2 ∷ 0x41 ∷ []; top = record { operator = 17 ∷ []; operands = Integer (pos 21) ∷ [] } ∷ []; strings = []; subroutines = [] })
unfolding cff_parts past_header name_bytes name_index top_index top_dict string_index subroutine_index index_of index_body index_data byte card part entries entries_in entry_at entry_in dict_number_from integer_from short_integer
source_read = refl

-- with Notice, standard string 100
abbrev with_notice : Cff
with_notice = record { bytes = 1 ∷ 0 ∷ 4 ∷ 1 ∷ 0 ∷ 1 ∷ 1 ∷ 1 ∷ 2 ∷ 0x41 ∷ 0 ∷ 1 ∷ 1 ∷ 1 ∷ 5 ∷ 0xEF ∷ 1 ∷ 0xA2 ∷ 0x11 ∷ 0 ∷ 0 ∷ 0 ∷ 0 ∷ 0 ∷ 1 ∷ 1 ∷ 1 ∷ 2 ∷ 0x0E ∷ []; names = []; top = record { operator = 1 ∷ []; operands = Integer (pos 100) ∷ [] } ∷ record { operator = 17 ∷ []; operands = Integer (pos 23) ∷ [] } ∷ []; strings = []; subroutines = [] }

notice_read : (string_at with_notice.strings notice_operator with_notice.top ≡ Some (Some (Standard 100))) × (char_strings with_notice ≡ Some (Some (14 ∷ []) ∷ []))
unfolding string_of string_operand offset_operand as_i32 as_u32 in_i32 char_strings at_offset index_of index_body index_data byte card part
notice_read = (refl, refl)

-- with a private dict and a local subroutine
abbrev with_private : Cff
with_private = record {
  bytes = 1 ∷ 0 ∷ 4 ∷ 1 ∷ 0 ∷ 1 ∷ 1 ∷ 1 ∷ 2 ∷ 0x41 ∷ 0 ∷ 1 ∷ 1 ∷ 1 ∷ 6 ∷ 0xA3 ∷ 0x11 ∷ 0x8F ∷ 0xAA ∷ 0x12 ∷ 0 ∷ 0 ∷ 0 ∷ 0 ∷ 0 ∷ 1 ∷ 1 ∷ 1 ∷ 3 ∷ 0x20 ∷ 0x0A ∷ 0x8B ∷ 0x14 ∷ 0x8F ∷ 0x13 ∷ 0 ∷ 1 ∷ 1 ∷ 1 ∷ 2 ∷ 0x0E ∷ [];
  names = [];
  top = record { operator = 17 ∷ []; operands = Integer (pos 24) ∷ [] } ∷ record { operator = 18 ∷ []; operands = Integer (pos 4) ∷ Integer (pos 31) ∷ [] } ∷ [];
  strings = [];
  subroutines = [];
}

private_read : private_of with_private 0 ≡ Some (record { entries = record { operator = 20 ∷ []; operands = Integer (pos 0) ∷ [] } ∷ record { operator = 19 ∷ []; operands = Integer (pos 4) ∷ [] } ∷ []; subroutines = Some (14 ∷ []) ∷ [] })
unfolding private_of private_at private_in local_subroutines range_operands offset_operand as_i32 as_u32 in_i32 index_of index_body index_data byte card part entries entries_in entry_at entry_in dict_number_from integer_from short_integer
private_read = refl

-- a table without a matrix in its top dict states none, so it is no subset
no_matrix : (cff : Cff) (glyph : ℕ) → last_of font_matrix_operator cff.top ≡ None → stated_matrices cff glyph ≡ None
unfolding stated_matrices
no_matrix cff glyph none = rw none refl

-- FDSelect in ranges: 0 to 4 have font dict 3, 5 to 8 have 7, others none; and a count of ranges that may not be
ranges : (selected (Ranges (0 ∷ 2 ∷ 0 ∷ 0 ∷ 3 ∷ 0 ∷ 5 ∷ 7 ∷ 0 ∷ 9 ∷ [])) 2 ≡ Some 3) × (selected (Ranges (0 ∷ 2 ∷ 0 ∷ 0 ∷ 3 ∷ 0 ∷ 5 ∷ 7 ∷ 0 ∷ 9 ∷ [])) 6 ≡ Some 7)
    × (selected (Ranges (0 ∷ 2 ∷ 0 ∷ 0 ∷ 3 ∷ 0 ∷ 5 ∷ 7 ∷ 0 ∷ 9 ∷ [])) 9 ≡ None) × (selected (Ranges (0 ∷ 0 ∷ 0 ∷ 0 ∷ [])) 0 ≡ None)
    -- the next range is cut, but its first glyph is there
    × (selected (Ranges (0 ∷ 2 ∷ 0 ∷ 0 ∷ 3 ∷ 0 ∷ 5 ∷ [])) 2 ≡ Some 3)
    -- format 0 cut, and an unknown format
    × (select_at 3 (0 ∷ 1 ∷ 1 ∷ []) ≡ None) × (select_at 2 (0 ∷ 1 ∷ 2 ∷ []) ≡ Some (Each (1 ∷ 2 ∷ []))) × (select_at 2 (1 ∷ 1 ∷ 2 ∷ []) ≡ None)
unfolding selected in_ranges select_at byte card part
ranges = (refl, refl, refl, refl, refl, refl, refl, refl)

-- charsets: format 0, format 2 in two ranges, format 1
charsets : (in_charset (0 ∷ 0 ∷ 7 ∷ 0 ∷ 9 ∷ []) 2 ≡ Some 9) × (in_charset (2 ∷ 0 ∷ 7 ∷ 0 ∷ 1 ∷ 1 ∷ 0 ∷ 0 ∷ 5 ∷ []) 2 ≡ Some 8) × (in_charset (2 ∷ 0 ∷ 7 ∷ 0 ∷ 1 ∷ 1 ∷ 0 ∷ 0 ∷ 5 ∷ []) 4 ≡ Some 257)
    × (in_charset (2 ∷ 0 ∷ 7 ∷ 0 ∷ 1 ∷ []) 3 ≡ None) × (in_charset (1 ∷ 0 ∷ 7 ∷ 4 ∷ []) 1 ≡ None) × (in_charset [] 0 ≡ Some 0)
unfolding in_charset in_format in_charset_ranges byte card part
charsets = (refl, refl, refl, refl, refl, refl)
