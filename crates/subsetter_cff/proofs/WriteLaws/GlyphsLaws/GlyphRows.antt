-- Worked refusals of a kept glyph, computed, each on a small table.
use Rattle.std.proofs.Common.{◌≡◌, true, [], ◌∷◌, refl}
use Rattle.std.specs.Prelude.{is_ok, Err}
use Rattle.subsetter_base.specs.declared.error.Error.TheVariants.{MalformedFont, SubsetError, CFFError, Unimplemented}
use Rattle.subsetter_base.specs.Bytes.{◌>>=◌, byte}
use Rattle.subsetter_cffdata.specs.Bytes.{card, part}
use Rattle.subsetter_cffdata.specs.Numerals.Numbers.{as_i32, as_u32, in_i32, integer_from, short_integer, dict_number_from}
use Rattle.subsetter_cffdata.specs.Indexes.Index.{index_data, index_body, index_of}
use Rattle.subsetter_cffdata.specs.Dicts.Dict.{entry_in, entry_at, entries_in, entries}
use Rattle.subsetter_cffdata.specs.Dicts.Operands.{offset_operand, range_operands, string_operand}
use Rattle.subsetter_cffdata.specs.Numerals.CharStringNumber.{number_at, whole_of}
use Rattle.subsetter_type2.specs.Token.{token_of, effect_of}
use Rattle.subsetter_type2.specs.Subroutines.{biased_entry}
use Rattle.subsetter_type2.specs.Runs.Machine.{act_at, run, outcome, subroutine}
use Rattle.subsetter_cff.specs.Read.Strings.{string_of}
use Rattle.subsetter_cff.specs.Read.Cff.{past_header, name_index, top_index, string_index, subroutine_index, top_dict, name_bytes, cff_parts, at_offset, char_strings}
use Rattle.subsetter_cff.specs.Read.FdArray.FontDicts.{font_dicts, font_dict_select, select_at, selected, in_ranges, font_dict_number, font_dict_of}
use Rattle.subsetter_cff.specs.Read.FdArray.Private.{local_subroutines, private_in, private_at, private_of}
use Rattle.subsetter_cff.specs.Read.Opened.{opened_cid, opened_parts, opened}
use Rattle.subsetter_cff.specs.Write.Plain.{kept_glyph, kept_glyphs, new_font_dict, parts_for, counted_parts, parts_of, cff_subset}

-- glyph 1 of one
no_glyph : cff_subset (1 ∷ 0 ∷ 4 ∷ 1 ∷ 0 ∷ 1 ∷ 1 ∷ 1 ∷ 2 ∷ 65 ∷ 0 ∷ 1 ∷ 1 ∷ 1 ∷ 3 ∷ 160 ∷ 17 ∷ 0 ∷ 0 ∷ 0 ∷ 0 ∷ 0 ∷ 1 ∷ 1 ∷ 1 ∷ 2 ∷ 14 ∷ []) 1000000 64 (1 ∷ []) ≡ Err MalformedFont
unfolding cff_parts past_header name_bytes name_index top_index top_dict string_index subroutine_index index_of index_body index_data byte card part entries entries_in entry_at entry_in dict_number_from integer_from short_integer char_strings at_offset offset_operand range_operands string_operand as_i32 as_u32 in_i32 opened opened_parts opened_cid font_dicts font_dict_select select_at private_in local_subroutines cff_subset parts_of parts_for counted_parts kept_glyph private_of private_at font_dict_number font_dict_of selected in_ranges new_font_dict string_of outcome run act_at token_of effect_of subroutine biased_entry number_at whole_of
no_glyph = refl

-- font dict 1 of one
no_dict : cff_subset (1 ∷ 0 ∷ 4 ∷ 1 ∷ 0 ∷ 1 ∷ 1 ∷ 1 ∷ 2 ∷ 65 ∷ 0 ∷ 1 ∷ 1 ∷ 1 ∷ 14 ∷ 139 ∷ 139 ∷ 139 ∷ 12 ∷ 30 ∷ 171 ∷ 17 ∷ 179 ∷ 12 ∷ 36 ∷ 177 ∷ 12 ∷ 37 ∷ 0 ∷ 0 ∷ 0 ∷ 0 ∷ 0 ∷ 1 ∷ 1 ∷ 1 ∷ 2 ∷ 14 ∷ 0 ∷ 1 ∷ 0 ∷ 1 ∷ 1 ∷ 1 ∷ 1 ∷ []) 1000000 64 (0 ∷ []) ≡ Err MalformedFont
unfolding cff_parts past_header name_bytes name_index top_index top_dict string_index subroutine_index index_of index_body index_data byte card part entries entries_in entry_at entry_in dict_number_from integer_from short_integer char_strings at_offset offset_operand range_operands string_operand as_i32 as_u32 in_i32 opened opened_parts opened_cid font_dicts font_dict_select select_at private_in local_subroutines cff_subset parts_of parts_for counted_parts kept_glyph private_of private_at font_dict_number font_dict_of selected in_ranges new_font_dict string_of outcome run act_at token_of effect_of subroutine biased_entry number_at whole_of
no_dict = refl

-- FDSelect of format 3 without ranges
no_ranges : cff_subset (1 ∷ 0 ∷ 4 ∷ 1 ∷ 0 ∷ 1 ∷ 1 ∷ 1 ∷ 2 ∷ 65 ∷ 0 ∷ 1 ∷ 1 ∷ 1 ∷ 14 ∷ 139 ∷ 139 ∷ 139 ∷ 12 ∷ 30 ∷ 171 ∷ 17 ∷ 180 ∷ 12 ∷ 36 ∷ 177 ∷ 12 ∷ 37 ∷ 0 ∷ 0 ∷ 0 ∷ 0 ∷ 0 ∷ 1 ∷ 1 ∷ 1 ∷ 2 ∷ 14 ∷ 3 ∷ 0 ∷ 0 ∷ 0 ∷ 1 ∷ 1 ∷ 1 ∷ 1 ∷ []) 1000000 64 (0 ∷ []) ≡ Err MalformedFont
unfolding cff_parts past_header name_bytes name_index top_index top_dict string_index subroutine_index index_of index_body index_data byte card part entries entries_in entry_at entry_in dict_number_from integer_from short_integer char_strings at_offset offset_operand range_operands string_operand as_i32 as_u32 in_i32 opened opened_parts opened_cid font_dicts font_dict_select select_at private_in local_subroutines cff_subset parts_of parts_for counted_parts kept_glyph private_of private_at font_dict_number font_dict_of selected in_ranges new_font_dict string_of outcome run act_at token_of effect_of subroutine biased_entry number_at whole_of
no_ranges = refl

-- a call of a subroutine that is missing
no_subroutine : cff_subset (1 ∷ 0 ∷ 4 ∷ 1 ∷ 0 ∷ 1 ∷ 1 ∷ 1 ∷ 2 ∷ 65 ∷ 0 ∷ 1 ∷ 1 ∷ 1 ∷ 3 ∷ 160 ∷ 17 ∷ 0 ∷ 0 ∷ 0 ∷ 0 ∷ 0 ∷ 1 ∷ 1 ∷ 1 ∷ 3 ∷ 139 ∷ 10 ∷ []) 1000000 64 (0 ∷ []) ≡ Err CFFError
unfolding cff_parts past_header name_bytes name_index top_index top_dict string_index subroutine_index index_of index_body index_data byte card part entries entries_in entry_at entry_in dict_number_from integer_from short_integer char_strings at_offset offset_operand range_operands string_operand as_i32 as_u32 in_i32 opened opened_parts opened_cid font_dicts font_dict_select select_at private_in local_subroutines cff_subset parts_of parts_for counted_parts kept_glyph private_of private_at font_dict_number font_dict_of selected in_ranges new_font_dict string_of outcome run act_at token_of effect_of subroutine biased_entry number_at whole_of
no_subroutine = refl

-- endchar with four operands
seac : cff_subset (1 ∷ 0 ∷ 4 ∷ 1 ∷ 0 ∷ 1 ∷ 1 ∷ 1 ∷ 2 ∷ 65 ∷ 0 ∷ 1 ∷ 1 ∷ 1 ∷ 3 ∷ 160 ∷ 17 ∷ 0 ∷ 0 ∷ 0 ∷ 0 ∷ 0 ∷ 1 ∷ 1 ∷ 1 ∷ 6 ∷ 139 ∷ 139 ∷ 139 ∷ 139 ∷ 14 ∷ []) 1000000 64 (0 ∷ []) ≡ Err Unimplemented
unfolding cff_parts past_header name_bytes name_index top_index top_dict string_index subroutine_index index_of index_body index_data byte card part entries entries_in entry_at entry_in dict_number_from integer_from short_integer char_strings at_offset offset_operand range_operands string_operand as_i32 as_u32 in_i32 opened opened_parts opened_cid font_dicts font_dict_select select_at private_in local_subroutines cff_subset parts_of parts_for counted_parts kept_glyph private_of private_at font_dict_number font_dict_of selected in_ranges new_font_dict string_of outcome run act_at token_of effect_of subroutine biased_entry number_at whole_of
seac = refl

-- the font dict is named by string 391, where there are none
no_dict_name : cff_subset (1 ∷ 0 ∷ 4 ∷ 1 ∷ 0 ∷ 1 ∷ 1 ∷ 1 ∷ 2 ∷ 65 ∷ 0 ∷ 1 ∷ 1 ∷ 1 ∷ 14 ∷ 139 ∷ 139 ∷ 139 ∷ 12 ∷ 30 ∷ 171 ∷ 17 ∷ 179 ∷ 12 ∷ 36 ∷ 177 ∷ 12 ∷ 37 ∷ 0 ∷ 0 ∷ 0 ∷ 0 ∷ 0 ∷ 1 ∷ 1 ∷ 1 ∷ 2 ∷ 14 ∷ 0 ∷ 0 ∷ 0 ∷ 1 ∷ 1 ∷ 1 ∷ 5 ∷ 248 ∷ 27 ∷ 12 ∷ 38 ∷ []) 1000000 64 (0 ∷ []) ≡ Err SubsetError
unfolding cff_parts past_header name_bytes name_index top_index top_dict string_index subroutine_index index_of index_body index_data byte card part entries entries_in entry_at entry_in dict_number_from integer_from short_integer char_strings at_offset offset_operand range_operands string_operand as_i32 as_u32 in_i32 opened opened_parts opened_cid font_dicts font_dict_select select_at private_in local_subroutines cff_subset parts_of parts_for counted_parts kept_glyph private_of private_at font_dict_number font_dict_of selected in_ranges new_font_dict string_of outcome run act_at token_of effect_of subroutine biased_entry number_at whole_of
no_dict_name = refl

-- the same name of a font dict that no kept glyph has
unused_name : is_ok (opened (1 ∷ 0 ∷ 4 ∷ 1 ∷ 0 ∷ 1 ∷ 1 ∷ 1 ∷ 2 ∷ 65 ∷ 0 ∷ 1 ∷ 1 ∷ 1 ∷ 14 ∷ 139 ∷ 139 ∷ 139 ∷ 12 ∷ 30 ∷ 171 ∷ 17 ∷ 179 ∷ 12 ∷ 36 ∷ 177 ∷ 12 ∷ 37 ∷ 0 ∷ 0 ∷ 0 ∷ 0 ∷ 0 ∷ 1 ∷ 1 ∷ 1 ∷ 2 ∷ 14 ∷ 0 ∷ 0 ∷ 0 ∷ 2 ∷ 1 ∷ 1 ∷ 1 ∷ 5 ∷ 248 ∷ 27 ∷ 12 ∷ 38 ∷ []) >>= λ cff. kept_glyphs cff 1000000 64 (0 ∷ []) >>= λ kept. parts_for cff kept) ≡ true
unfolding cff_parts past_header name_bytes name_index top_index top_dict string_index subroutine_index index_of index_body index_data byte card part entries entries_in entry_at entry_in dict_number_from integer_from short_integer char_strings at_offset offset_operand range_operands string_operand as_i32 as_u32 in_i32 opened opened_parts opened_cid font_dicts font_dict_select select_at private_in local_subroutines cff_subset parts_of parts_for counted_parts kept_glyph private_of private_at font_dict_number font_dict_of selected in_ranges new_font_dict string_of outcome run act_at token_of effect_of subroutine biased_entry number_at whole_of
unused_name = refl
