-- A CID-keyed table, computed: two font dicts, a global and a local subroutine, a real matrix in a font dict and none at the top.
use Rattle.std.proofs.Common.{◌≡◌, ℕ, List, [], ◌∷◌, length, refl}
use Rattle.std.specs.Prelude.{Result, Ok, Err}
use Rattle.subsetter_cffdata.specs.Bytes.{card, part}
use Rattle.subsetter_base.specs.Bytes.{byte, ◌>>=◌}
use Rattle.subsetter_cffdata.specs.Reals.Decimals.{decimal_digits, real_text, real_at, text_at, real_of, unsigned_real}
use Rattle.subsetter_cffdata.specs.Numerals.Numbers.{integer, as_i32, as_u32, in_i32, integer_from, short_integer, dict_number_from, signed16, signed32}
use Rattle.subsetter_cffdata.specs.Indexes.Index.{index, header, index_data, index_body, index_of}
use Rattle.subsetter_cffdata.specs.Dicts.Dict.{entry_in, entry_at, entries_in, entries}
use Rattle.subsetter_cffdata.specs.Dicts.Operands.{offset_operand, range_operands, string_operand}
use Rattle.subsetter_cffdata.specs.Numerals.Values.{thousand, by_1000}
use Rattle.subsetter_cffdata.specs.Numerals.CharStringNumber.{number_at, whole_of, written}
use Rattle.subsetter_type2.specs.Subroutines.{biased_entry}
use Rattle.subsetter_type2.specs.Token.{token_of, effect_of}
use Rattle.subsetter_type2.specs.Runs.Machine.{subroutine, act_at, run, outcome}
use Rattle.subsetter_cff.specs.Read.Strings.{string_of}
use Rattle.subsetter_cff.specs.Read.Cff.{past_header, name_index, top_index, string_index, subroutine_index, top_dict, name_bytes, cff_parts, at_offset, char_strings}
use Rattle.subsetter_cff.specs.Read.FdArray.FontDicts.{in_ranges, selected, select_at, font_dicts, font_dict_select, font_dict_number, font_dict_of}
use Rattle.subsetter_cff.specs.Read.FdArray.Private.{local_subroutines, private_in, private_at, private_of}
use Rattle.subsetter_cff.specs.Write.Laying.Layout.{strings, charset_bytes, select_bytes, private_bytes, entries_of_font_dict_by, top_entries_by, front, font_dicts_of, cff_table}
use Rattle.subsetter_cff.specs.Read.Opened.{opened, opened_parts, opened_cid}
use Rattle.subsetter_cff.specs.Write.Plain.{kept_glyph, new_font_dict, parts_for, counted_parts, limited, parts_of, cff_subset}

abbrev cid_source : List ℕ
cid_source =
    1 ∷ 0 ∷ 4 ∷ 1 ∷ 0 ∷ 1 ∷ 1 ∷ 1 ∷ 2 ∷ 65 ∷ 0 ∷ 1 ∷ 1 ∷ 1 ∷ 39 ∷ 248 ∷ 27 ∷ 248 ∷ 28 ∷ 139 ∷ 12 ∷ 30 ∷ 248 ∷ 29 ∷ 1 ∷ 139 ∷ 139 ∷ 30 ∷ 10 ∷ 0 ∷ 31 ∷ 140 ∷ 5 ∷ 29 ∷ 0 ∷ 0 ∷ 0 ∷ 145 ∷ 17 ∷ 29 ∷ 0 ∷ 0 ∷ 0 ∷ 107 ∷ 12 ∷ 36 ∷ 29 ∷ 0 ∷ 0 ∷ 0 ∷ 96 ∷ 12 ∷ 37 ∷ 0 ∷ 4 ∷ 1 ∷ 1 ∷ 6 ∷ 14 ∷ 15 ∷ 16 ∷ 65 ∷ 100 ∷ 111 ∷ 98 ∷ 101 ∷ 73 ∷ 100 ∷ 101 ∷ 110 ∷ 116 ∷ 105 ∷ 116 ∷ 121 ∷ 78 ∷ 70 ∷ 0 ∷ 1 ∷ 1 ∷ 1 ∷ 4 ∷ 139 ∷ 22 ∷ 11 ∷ 139 ∷ 20 ∷ 143 ∷ 19 ∷ 0 ∷ 1 ∷ 1 ∷ 1 ∷ 4 ∷ 140 ∷ 22 ∷ 11 ∷ 3 ∷ 0 ∷ 2 ∷ 0 ∷ 0 ∷ 1 ∷ 0 ∷ 2 ∷ 0 ∷ 0 ∷ 3 ∷ 0 ∷ 2 ∷ 1 ∷ 1 ∷ 26 ∷ 33 ∷ 30 ∷ 10 ∷ 0 ∷ 31 ∷ 139 ∷ 139 ∷ 30 ∷ 10 ∷ 0 ∷ 31 ∷ 139 ∷ 139 ∷ 12 ∷ 7 ∷ 143 ∷ 29 ∷ 0 ∷ 0 ∷ 0 ∷ 84 ∷ 18 ∷ 248 ∷ 30 ∷ 12 ∷ 38 ∷ 139 ∷ 29 ∷ 0 ∷ 0 ∷ 0 ∷ 84 ∷ 18 ∷ 0 ∷ 3 ∷ 1 ∷ 1 ∷ 2 ∷ 5 ∷ 8 ∷ 14 ∷ 32 ∷ 29 ∷ 14 ∷ 32 ∷ 10 ∷ 14 ∷ []

-- glyph 0 of font dict 1, and glyph 2 of font dict 0, whose charstring calls its local subroutine
abbrev some_glyphs : List ℕ
some_glyphs = 0 ∷ 2 ∷ []

-- the size of an answer, 0 for a refusal
abbrev size : {E : Type 0} → Result (List ℕ) E → ℕ
size (Ok bytes) = length bytes
size (Err e) = 0

answered : size (cff_subset cid_source 1000000 64 some_glyphs) ≡ 179
unfolding cff_subset counted_parts opened opened_parts opened_cid cff_parts past_header name_bytes name_index top_index top_dict string_index subroutine_index index_of index_body index_data byte card part entries entries_in entry_at entry_in dict_number_from integer_from short_integer signed32 signed16 real_at text_at real_of unsigned_real char_strings at_offset offset_operand range_operands string_operand as_i32 as_u32 in_i32 font_dicts font_dict_select select_at selected in_ranges font_dict_number font_dict_of private_of private_at private_in local_subroutines string_of parts_of parts_for new_font_dict limited kept_glyph outcome run act_at subroutine biased_entry whole_of token_of effect_of number_at written by_1000 thousand cff_table front top_entries_by strings charset_bytes select_bytes private_bytes entries_of_font_dict_by font_dicts_of index header integer real_text decimal_digits
answered = refl

given_back : (cff_subset cid_source 1000000 64 some_glyphs >>= λ out. cff_subset out 1000000 64 (0 ∷ 1 ∷ [])) ≡ cff_subset cid_source 1000000 64 some_glyphs
unfolding cff_subset counted_parts opened opened_parts opened_cid cff_parts past_header name_bytes name_index top_index top_dict string_index subroutine_index index_of index_body index_data byte card part entries entries_in entry_at entry_in dict_number_from integer_from short_integer signed32 signed16 real_at text_at real_of unsigned_real char_strings at_offset offset_operand range_operands string_operand as_i32 as_u32 in_i32 font_dicts font_dict_select select_at selected in_ranges font_dict_number font_dict_of private_of private_at private_in local_subroutines string_of parts_of parts_for new_font_dict limited kept_glyph outcome run act_at subroutine biased_entry whole_of token_of effect_of number_at written by_1000 thousand cff_table front top_entries_by strings charset_bytes select_bytes private_bytes entries_of_font_dict_by font_dicts_of index header integer real_text decimal_digits
given_back = refl

-- in the other order
other_order : (cff_subset cid_source 1000000 64 some_glyphs >>= λ out. cff_subset out 1000000 64 (1 ∷ 0 ∷ [])) ≡ cff_subset cid_source 1000000 64 (2 ∷ 0 ∷ [])
unfolding cff_subset counted_parts opened opened_parts opened_cid cff_parts past_header name_bytes name_index top_index top_dict string_index subroutine_index index_of index_body index_data byte card part entries entries_in entry_at entry_in dict_number_from integer_from short_integer signed32 signed16 real_at text_at real_of unsigned_real char_strings at_offset offset_operand range_operands string_operand as_i32 as_u32 in_i32 font_dicts font_dict_select select_at selected in_ranges font_dict_number font_dict_of private_of private_at private_in local_subroutines string_of parts_of parts_for new_font_dict limited kept_glyph outcome run act_at subroutine biased_entry whole_of token_of effect_of number_at written by_1000 thousand cff_table front top_entries_by strings charset_bytes select_bytes private_bytes entries_of_font_dict_by font_dicts_of index header integer real_text decimal_digits
other_order = refl
