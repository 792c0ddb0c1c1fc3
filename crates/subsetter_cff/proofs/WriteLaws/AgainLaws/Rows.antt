-- A worked row, computed: the table of 134 bytes of a SID-keyed font subset again, and once more.
use Rattle.std.proofs.Common.{◌≡◌, ℕ, List, [], ◌∷◌, length, refl, ap, arith, ◌∙◌, sym}
use Rattle.std.specs.Prelude.{Ok}
use Rattle.subsetter_cffdata.specs.Bytes.{card, part}
use Rattle.subsetter_base.specs.Bytes.{byte}
use Rattle.subsetter_cffdata.specs.Reals.Decimals.{decimal_digits, real_text, real_at, text_at, real_of, unsigned_real}
use Rattle.subsetter_cffdata.specs.Numerals.Numbers.{integer, as_i32, as_u32, in_i32, integer_from, short_integer, dict_number_from, signed16, signed32}
use Rattle.subsetter_cffdata.specs.Indexes.Index.{index, header, index_data, index_body, index_of}
use Rattle.subsetter_cffdata.specs.Dicts.Dict.{entry_in, entry_at, entries_in, entries}
use Rattle.subsetter_cffdata.specs.Dicts.Operands.{offset_operand, range_operands, string_operand}
use Rattle.subsetter_cffdata.specs.Numerals.Values.{thousand, by_1000}
use Rattle.subsetter_cffdata.specs.Numerals.CharStringNumber.{number_at, written}
use Rattle.subsetter_type2.specs.Token.{token_of, effect_of}
use Rattle.subsetter_type2.specs.Runs.Machine.{act_at, run, outcome}
use Rattle.subsetter_cff.specs.Read.Strings.{string_of}
use Rattle.subsetter_cff.specs.Read.Cff.{past_header, name_index, top_index, string_index, subroutine_index, top_dict, name_bytes, cff_parts, at_offset, char_strings}
use Rattle.subsetter_cff.specs.Read.FdArray.FontDicts.{in_ranges, selected, select_at, font_dicts, font_dict_select, font_dict_number, font_dict_of}
use Rattle.subsetter_cff.specs.Read.FdArray.Private.{local_subroutines, private_in, private_at, private_of}
use Rattle.subsetter_cff.specs.Write.Laying.Layout.{strings, charset_bytes, select_bytes, private_bytes, entries_of_font_dict_by, top_entries_by, front, font_dicts_of, cff_table}
use Rattle.subsetter_cff.specs.Read.Opened.{opened, opened_parts, opened_cid}
use Rattle.subsetter_cff.specs.Write.Plain.{kept_glyph, new_font_dict, parts_for, counted_parts, limited, parts_of, cff_subset}
use Rattle.subsetter_cff.proofs.ReadLaws.Results.{same_Ok}
use Rattle.subsetter_cff.proofs.WriteLaws.Rows.{source, smallest_bytes}

-- FDSelect is in format 0 now
abbrev again_bytes : List ℕ
again_bytes =
    1 ∷ 0 ∷ 4 ∷ 4 ∷ 0 ∷ 1 ∷ 1 ∷ 1 ∷ 2 ∷ 65 ∷ 0 ∷ 1 ∷ 1 ∷ 1 ∷ 60 ∷ 248 ∷ 27 ∷ 248 ∷ 28 ∷ 139 ∷ 12 ∷ 30 ∷ 30 ∷ 10 ∷ 0 ∷ 31 ∷ 139 ∷ 139 ∷ 30 ∷ 10 ∷ 0 ∷ 31 ∷ 139 ∷ 139 ∷ 12 ∷ 7 ∷ 139 ∷ 139 ∷ 139 ∷ 139 ∷ 5 ∷ 29 ∷ 0 ∷ 0 ∷ 0 ∷ 95 ∷ 15 ∷ 29 ∷ 0 ∷ 0 ∷ 0 ∷ 122 ∷ 17 ∷ 29 ∷ 0 ∷ 0 ∷ 255 ∷ 255 ∷ 12 ∷ 34 ∷ 29 ∷ 0 ∷ 0 ∷ 0 ∷ 98 ∷ 12 ∷ 36 ∷ 29 ∷ 0 ∷ 0 ∷ 0 ∷ 96 ∷ 12 ∷ 37 ∷ 0 ∷ 2 ∷ 1 ∷ 1 ∷ 6 ∷ 14 ∷ 65 ∷ 100 ∷ 111 ∷ 98 ∷ 101 ∷ 73 ∷ 100 ∷ 101 ∷ 110 ∷ 116 ∷ 105 ∷ 116 ∷ 121 ∷ 0 ∷ 0 ∷ 0 ∷ 0 ∷ 0 ∷ 0 ∷ 1 ∷ 1 ∷ 1 ∷ 20 ∷ 140 ∷ 139 ∷ 139 ∷ 140 ∷ 139 ∷ 139 ∷ 12 ∷ 7 ∷ 29 ∷ 0 ∷ 0 ∷ 0 ∷ 0 ∷ 29 ∷ 0 ∷ 0 ∷ 0 ∷ 96 ∷ 18 ∷ 0 ∷ 1 ∷ 1 ∷ 1 ∷ 2 ∷ 14 ∷ []

once : cff_subset source 1000000 64 (0 ∷ []) ≡ Ok smallest_bytes
unfolding cff_subset counted_parts opened opened_parts opened_cid cff_parts past_header name_bytes name_index top_index top_dict string_index subroutine_index index_of index_body index_data byte card part entries entries_in entry_at entry_in dict_number_from integer_from short_integer signed32 signed16 real_at text_at real_of unsigned_real char_strings at_offset offset_operand range_operands string_operand as_i32 as_u32 in_i32 font_dicts font_dict_select select_at selected in_ranges font_dict_number font_dict_of private_of private_at private_in local_subroutines string_of parts_of parts_for new_font_dict limited kept_glyph outcome run act_at token_of effect_of number_at written by_1000 thousand cff_table front top_entries_by strings charset_bytes select_bytes private_bytes entries_of_font_dict_by font_dicts_of index header integer real_text decimal_digits
once = refl

-- other bytes, as the font is SID-keyed
again : cff_subset smallest_bytes 1000000 64 (0 ∷ []) ≡ Ok again_bytes
unfolding cff_subset counted_parts opened opened_parts opened_cid cff_parts past_header name_bytes name_index top_index top_dict string_index subroutine_index index_of index_body index_data byte card part entries entries_in entry_at entry_in dict_number_from integer_from short_integer signed32 signed16 real_at text_at real_of unsigned_real char_strings at_offset offset_operand range_operands string_operand as_i32 as_u32 in_i32 font_dicts font_dict_select select_at selected in_ranges font_dict_number font_dict_of private_of private_at private_in local_subroutines string_of parts_of parts_for new_font_dict limited kept_glyph outcome run act_at token_of effect_of number_at written by_1000 thousand cff_table front top_entries_by strings charset_bytes select_bytes private_bytes entries_of_font_dict_by font_dicts_of index header integer real_text decimal_digits
again = refl

-- from then on the same
third : cff_subset again_bytes 1000000 64 (0 ∷ []) ≡ Ok again_bytes
unfolding cff_subset counted_parts opened opened_parts opened_cid cff_parts past_header name_bytes name_index top_index top_dict string_index subroutine_index index_of index_body index_data byte card part entries entries_in entry_at entry_in dict_number_from integer_from short_integer signed32 signed16 real_at text_at real_of unsigned_real char_strings at_offset offset_operand range_operands string_operand as_i32 as_u32 in_i32 font_dicts font_dict_select select_at selected in_ranges font_dict_number font_dict_of private_of private_at private_in local_subroutines string_of parts_of parts_for new_font_dict limited kept_glyph outcome run act_at token_of effect_of number_at written by_1000 thousand cff_table front top_entries_by strings charset_bytes select_bytes private_bytes entries_of_font_dict_by font_dicts_of index header integer real_text decimal_digits
third = refl

-- so a SID-keyed font's table isn't given back
not_given_back : cff_subset smallest_bytes 1000000 64 (0 ∷ []) ≡ Ok smallest_bytes → ⊥
not_given_back e =
    let same : again_bytes ≡ smallest_bytes = same_Ok _ _ (sym again ∙ e) in
    let long : ◌≡◌ {A = ℕ} 128 134 = ap length same in
    absurd (omega (arith, long))
