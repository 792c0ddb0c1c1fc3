-- Worked refusals, computed: each item of the faults that a CFF table can have, on a small table.
use Rattle.std.proofs.Common.{◌≡◌, true, [], ◌∷◌, refl}
use Rattle.std.specs.Prelude.{is_ok, Err}
use Rattle.subsetter_base.specs.declared.error.Error.TheVariants.{MalformedFont}
use Rattle.subsetter_cffdata.specs.Bytes.{card, part}
use Rattle.subsetter_base.specs.Bytes.{byte}
use Rattle.subsetter_cffdata.specs.Numerals.Numbers.{as_i32, as_u32, in_i32, integer_from, short_integer, dict_number_from}
use Rattle.subsetter_cffdata.specs.Indexes.Index.{index_data, index_body, index_of}
use Rattle.subsetter_cffdata.specs.Dicts.Dict.{entry_in, entry_at, entries_in, entries}
use Rattle.subsetter_cffdata.specs.Dicts.Operands.{offset_operand, range_operands, string_operand}
use Rattle.subsetter_cff.specs.Read.Cff.{past_header, name_index, top_index, string_index, subroutine_index, top_dict, name_bytes, cff_parts, at_offset, char_strings}
use Rattle.subsetter_cff.specs.Read.FdArray.FontDicts.{font_dicts, font_dict_select, select_at}
use Rattle.subsetter_cff.specs.Read.FdArray.Private.{local_subroutines, private_in}
use Rattle.subsetter_cff.specs.Read.Opened.{opened_cid, opened_parts, opened}

-- two bytes
short : opened (1 ∷ 0 ∷ []) ≡ Err MalformedFont
unfolding cff_parts past_header name_bytes name_index top_index top_dict string_index subroutine_index index_of index_body index_data byte card part entries entries_in entry_at entry_in dict_number_from integer_from short_integer char_strings at_offset offset_operand range_operands string_operand as_i32 as_u32 in_i32 opened opened_parts opened_cid font_dicts font_dict_select select_at private_in local_subroutines
short = refl

-- a cut Name INDEX
cut_names : opened (1 ∷ 0 ∷ 4 ∷ 1 ∷ 0 ∷ 1 ∷ 1 ∷ 1 ∷ 3 ∷ 65 ∷ []) ≡ Err MalformedFont
unfolding cff_parts past_header name_bytes name_index top_index top_dict string_index subroutine_index index_of index_body index_data byte card part entries entries_in entry_at entry_in dict_number_from integer_from short_integer char_strings at_offset offset_operand range_operands string_operand as_i32 as_u32 in_i32 opened opened_parts opened_cid font_dicts font_dict_select select_at private_in local_subroutines
cut_names = refl

-- a cut Global Subr INDEX
cut_subroutines : opened (1 ∷ 0 ∷ 4 ∷ 1 ∷ 0 ∷ 1 ∷ 1 ∷ 1 ∷ 2 ∷ 65 ∷ 0 ∷ 1 ∷ 1 ∷ 1 ∷ 3 ∷ 160 ∷ 17 ∷ 0 ∷ 0 ∷ 0 ∷ []) ≡ Err MalformedFont
unfolding cff_parts past_header name_bytes name_index top_index top_dict string_index subroutine_index index_of index_body index_data byte card part entries entries_in entry_at entry_in dict_number_from integer_from short_integer char_strings at_offset offset_operand range_operands string_operand as_i32 as_u32 in_i32 opened opened_parts opened_cid font_dicts font_dict_select select_at private_in local_subroutines
cut_subroutines = refl

-- no entry in the Top DICT INDEX
no_top : opened (1 ∷ 0 ∷ 4 ∷ 1 ∷ 0 ∷ 1 ∷ 1 ∷ 1 ∷ 2 ∷ 65 ∷ 0 ∷ 0 ∷ 0 ∷ 0 ∷ 0 ∷ 0 ∷ []) ≡ Err MalformedFont
unfolding cff_parts past_header name_bytes name_index top_index top_dict string_index subroutine_index index_of index_body index_data byte card part entries entries_in entry_at entry_in dict_number_from integer_from short_integer char_strings at_offset offset_operand range_operands string_operand as_i32 as_u32 in_i32 opened opened_parts opened_cid font_dicts font_dict_select select_at private_in local_subroutines
no_top = refl

-- an earlier CharStrings entry with two operands, the last one right
earlier_entry : opened (1 ∷ 0 ∷ 4 ∷ 1 ∷ 0 ∷ 1 ∷ 1 ∷ 1 ∷ 2 ∷ 65 ∷ 0 ∷ 1 ∷ 1 ∷ 1 ∷ 6 ∷ 139 ∷ 139 ∷ 17 ∷ 163 ∷ 17 ∷ 0 ∷ 0 ∷ 0 ∷ 0 ∷ 0 ∷ 1 ∷ 1 ∷ 1 ∷ 2 ∷ 14 ∷ []) ≡ Err MalformedFont
unfolding cff_parts past_header name_bytes name_index top_index top_dict string_index subroutine_index index_of index_body index_data byte card part entries entries_in entry_at entry_in dict_number_from integer_from short_integer char_strings at_offset offset_operand range_operands string_operand as_i32 as_u32 in_i32 opened opened_parts opened_cid font_dicts font_dict_select select_at private_in local_subroutines
earlier_entry = refl

-- no CharStrings entry
no_entry : opened (1 ∷ 0 ∷ 4 ∷ 1 ∷ 0 ∷ 1 ∷ 1 ∷ 1 ∷ 2 ∷ 65 ∷ 0 ∷ 1 ∷ 1 ∷ 1 ∷ 1 ∷ 0 ∷ 0 ∷ 0 ∷ 0 ∷ []) ≡ Err MalformedFont
unfolding cff_parts past_header name_bytes name_index top_index top_dict string_index subroutine_index index_of index_body index_data byte card part entries entries_in entry_at entry_in dict_number_from integer_from short_integer char_strings at_offset offset_operand range_operands string_operand as_i32 as_u32 in_i32 opened opened_parts opened_cid font_dicts font_dict_select select_at private_in local_subroutines
no_entry = refl

-- no charstrings
no_glyphs : opened (1 ∷ 0 ∷ 4 ∷ 1 ∷ 0 ∷ 1 ∷ 1 ∷ 1 ∷ 2 ∷ 65 ∷ 0 ∷ 1 ∷ 1 ∷ 1 ∷ 3 ∷ 160 ∷ 17 ∷ 0 ∷ 0 ∷ 0 ∷ 0 ∷ 0 ∷ 0 ∷ []) ≡ Err MalformedFont
unfolding cff_parts past_header name_bytes name_index top_index top_dict string_index subroutine_index index_of index_body index_data byte card part entries entries_in entry_at entry_in dict_number_from integer_from short_integer char_strings at_offset offset_operand range_operands string_operand as_i32 as_u32 in_i32 opened opened_parts opened_cid font_dicts font_dict_select select_at private_in local_subroutines
no_glyphs = refl

-- CharStrings outside the table
outside : opened (1 ∷ 0 ∷ 4 ∷ 1 ∷ 0 ∷ 1 ∷ 1 ∷ 1 ∷ 2 ∷ 65 ∷ 0 ∷ 1 ∷ 1 ∷ 1 ∷ 3 ∷ 239 ∷ 17 ∷ 0 ∷ 0 ∷ 0 ∷ 0 ∷ 0 ∷ 1 ∷ 1 ∷ 1 ∷ 2 ∷ 14 ∷ []) ≡ Err MalformedFont
unfolding cff_parts past_header name_bytes name_index top_index top_dict string_index subroutine_index index_of index_body index_data byte card part entries entries_in entry_at entry_in dict_number_from integer_from short_integer char_strings at_offset offset_operand range_operands string_operand as_i32 as_u32 in_i32 opened opened_parts opened_cid font_dicts font_dict_select select_at private_in local_subroutines
outside = refl

-- no FDArray
no_array : opened (1 ∷ 0 ∷ 4 ∷ 1 ∷ 0 ∷ 1 ∷ 1 ∷ 1 ∷ 2 ∷ 65 ∷ 0 ∷ 1 ∷ 1 ∷ 1 ∷ 11 ∷ 139 ∷ 139 ∷ 139 ∷ 12 ∷ 30 ∷ 168 ∷ 17 ∷ 174 ∷ 12 ∷ 37 ∷ 0 ∷ 0 ∷ 0 ∷ 0 ∷ 0 ∷ 1 ∷ 1 ∷ 1 ∷ 2 ∷ 14 ∷ 0 ∷ 0 ∷ 0 ∷ 1 ∷ 1 ∷ 1 ∷ 1 ∷ []) ≡ Err MalformedFont
unfolding cff_parts past_header name_bytes name_index top_index top_dict string_index subroutine_index index_of index_body index_data byte card part entries entries_in entry_at entry_in dict_number_from integer_from short_integer char_strings at_offset offset_operand range_operands string_operand as_i32 as_u32 in_i32 opened opened_parts opened_cid font_dicts font_dict_select select_at private_in local_subroutines
no_array = refl

-- no FDSelect
no_selection : opened (1 ∷ 0 ∷ 4 ∷ 1 ∷ 0 ∷ 1 ∷ 1 ∷ 1 ∷ 2 ∷ 65 ∷ 0 ∷ 1 ∷ 1 ∷ 1 ∷ 11 ∷ 139 ∷ 139 ∷ 139 ∷ 12 ∷ 30 ∷ 168 ∷ 17 ∷ 176 ∷ 12 ∷ 36 ∷ 0 ∷ 0 ∷ 0 ∷ 0 ∷ 0 ∷ 1 ∷ 1 ∷ 1 ∷ 2 ∷ 14 ∷ 0 ∷ 0 ∷ 0 ∷ 1 ∷ 1 ∷ 1 ∷ 1 ∷ []) ≡ Err MalformedFont
unfolding cff_parts past_header name_bytes name_index top_index top_dict string_index subroutine_index index_of index_body index_data byte card part entries entries_in entry_at entry_in dict_number_from integer_from short_integer char_strings at_offset offset_operand range_operands string_operand as_i32 as_u32 in_i32 opened opened_parts opened_cid font_dicts font_dict_select select_at private_in local_subroutines
no_selection = refl

-- FDSelect of format 1
other_format : opened (1 ∷ 0 ∷ 4 ∷ 1 ∷ 0 ∷ 1 ∷ 1 ∷ 1 ∷ 2 ∷ 65 ∷ 0 ∷ 1 ∷ 1 ∷ 1 ∷ 14 ∷ 139 ∷ 139 ∷ 139 ∷ 12 ∷ 30 ∷ 171 ∷ 17 ∷ 179 ∷ 12 ∷ 36 ∷ 177 ∷ 12 ∷ 37 ∷ 0 ∷ 0 ∷ 0 ∷ 0 ∷ 0 ∷ 1 ∷ 1 ∷ 1 ∷ 2 ∷ 14 ∷ 1 ∷ 0 ∷ 0 ∷ 1 ∷ 1 ∷ 1 ∷ 1 ∷ []) ≡ Err MalformedFont
unfolding cff_parts past_header name_bytes name_index top_index top_dict string_index subroutine_index index_of index_body index_data byte card part entries entries_in entry_at entry_in dict_number_from integer_from short_integer char_strings at_offset offset_operand range_operands string_operand as_i32 as_u32 in_i32 opened opened_parts opened_cid font_dicts font_dict_select select_at private_in local_subroutines
other_format = refl

-- a CID-keyed font with one font dict
keyed : is_ok (opened (1 ∷ 0 ∷ 4 ∷ 1 ∷ 0 ∷ 1 ∷ 1 ∷ 1 ∷ 2 ∷ 65 ∷ 0 ∷ 1 ∷ 1 ∷ 1 ∷ 14 ∷ 139 ∷ 139 ∷ 139 ∷ 12 ∷ 30 ∷ 171 ∷ 17 ∷ 179 ∷ 12 ∷ 36 ∷ 177 ∷ 12 ∷ 37 ∷ 0 ∷ 0 ∷ 0 ∷ 0 ∷ 0 ∷ 1 ∷ 1 ∷ 1 ∷ 2 ∷ 14 ∷ 0 ∷ 0 ∷ 0 ∷ 1 ∷ 1 ∷ 1 ∷ 1 ∷ [])) ≡ true
unfolding cff_parts past_header name_bytes name_index top_index top_dict string_index subroutine_index index_of index_body index_data byte card part entries entries_in entry_at entry_in dict_number_from integer_from short_integer char_strings at_offset offset_operand range_operands string_operand as_i32 as_u32 in_i32 opened opened_parts opened_cid font_dicts font_dict_select select_at private_in local_subroutines
keyed = refl

-- FDSelect of format 0 without the glyph
cut_selection : opened (1 ∷ 0 ∷ 4 ∷ 1 ∷ 0 ∷ 1 ∷ 1 ∷ 1 ∷ 2 ∷ 65 ∷ 0 ∷ 1 ∷ 1 ∷ 1 ∷ 14 ∷ 139 ∷ 139 ∷ 139 ∷ 12 ∷ 30 ∷ 171 ∷ 17 ∷ 177 ∷ 12 ∷ 36 ∷ 182 ∷ 12 ∷ 37 ∷ 0 ∷ 0 ∷ 0 ∷ 0 ∷ 0 ∷ 1 ∷ 1 ∷ 1 ∷ 2 ∷ 14 ∷ 0 ∷ 1 ∷ 1 ∷ 1 ∷ 1 ∷ 0 ∷ []) ≡ Err MalformedFont
unfolding cff_parts past_header name_bytes name_index top_index top_dict string_index subroutine_index index_of index_body index_data byte card part entries entries_in entry_at entry_in dict_number_from integer_from short_integer char_strings at_offset offset_operand range_operands string_operand as_i32 as_u32 in_i32 opened opened_parts opened_cid font_dicts font_dict_select select_at private_in local_subroutines
cut_selection = refl

-- a cut FDArray
cut_array : opened (1 ∷ 0 ∷ 4 ∷ 1 ∷ 0 ∷ 1 ∷ 1 ∷ 1 ∷ 2 ∷ 65 ∷ 0 ∷ 1 ∷ 1 ∷ 1 ∷ 14 ∷ 139 ∷ 139 ∷ 139 ∷ 12 ∷ 30 ∷ 171 ∷ 17 ∷ 179 ∷ 12 ∷ 36 ∷ 177 ∷ 12 ∷ 37 ∷ 0 ∷ 0 ∷ 0 ∷ 0 ∷ 0 ∷ 1 ∷ 1 ∷ 1 ∷ 2 ∷ 14 ∷ 0 ∷ 0 ∷ 0 ∷ 1 ∷ 1 ∷ 1 ∷ []) ≡ Err MalformedFont
unfolding cff_parts past_header name_bytes name_index top_index top_dict string_index subroutine_index index_of index_body index_data byte card part entries entries_in entry_at entry_in dict_number_from integer_from short_integer char_strings at_offset offset_operand range_operands string_operand as_i32 as_u32 in_i32 opened opened_parts opened_cid font_dicts font_dict_select select_at private_in local_subroutines
cut_array = refl

-- a Private entry outside the table
private_outside : opened (1 ∷ 0 ∷ 4 ∷ 1 ∷ 0 ∷ 1 ∷ 1 ∷ 1 ∷ 2 ∷ 65 ∷ 0 ∷ 1 ∷ 1 ∷ 1 ∷ 14 ∷ 139 ∷ 139 ∷ 139 ∷ 12 ∷ 30 ∷ 171 ∷ 17 ∷ 179 ∷ 12 ∷ 36 ∷ 177 ∷ 12 ∷ 37 ∷ 0 ∷ 0 ∷ 0 ∷ 0 ∷ 0 ∷ 1 ∷ 1 ∷ 1 ∷ 2 ∷ 14 ∷ 0 ∷ 0 ∷ 0 ∷ 1 ∷ 1 ∷ 1 ∷ 4 ∷ 140 ∷ 246 ∷ 18 ∷ []) ≡ Err MalformedFont
unfolding cff_parts past_header name_bytes name_index top_index top_dict string_index subroutine_index index_of index_body index_data byte card part entries entries_in entry_at entry_in dict_number_from integer_from short_integer char_strings at_offset offset_operand range_operands string_operand as_i32 as_u32 in_i32 opened opened_parts opened_cid font_dicts font_dict_select select_at private_in local_subroutines
private_outside = refl

-- an earlier Private entry outside the table
earlier_private : opened (1 ∷ 0 ∷ 4 ∷ 1 ∷ 0 ∷ 1 ∷ 1 ∷ 1 ∷ 2 ∷ 65 ∷ 0 ∷ 1 ∷ 1 ∷ 1 ∷ 14 ∷ 139 ∷ 139 ∷ 139 ∷ 12 ∷ 30 ∷ 171 ∷ 17 ∷ 179 ∷ 12 ∷ 36 ∷ 177 ∷ 12 ∷ 37 ∷ 0 ∷ 0 ∷ 0 ∷ 0 ∷ 0 ∷ 1 ∷ 1 ∷ 1 ∷ 2 ∷ 14 ∷ 0 ∷ 0 ∷ 0 ∷ 1 ∷ 1 ∷ 1 ∷ 7 ∷ 140 ∷ 246 ∷ 18 ∷ 139 ∷ 139 ∷ 18 ∷ []) ≡ Err MalformedFont
unfolding cff_parts past_header name_bytes name_index top_index top_dict string_index subroutine_index index_of index_body index_data byte card part entries entries_in entry_at entry_in dict_number_from integer_from short_integer char_strings at_offset offset_operand range_operands string_operand as_i32 as_u32 in_i32 opened opened_parts opened_cid font_dicts font_dict_select select_at private_in local_subroutines
earlier_private = refl

-- in a font dict
one_operand : opened (1 ∷ 0 ∷ 4 ∷ 1 ∷ 0 ∷ 1 ∷ 1 ∷ 1 ∷ 2 ∷ 65 ∷ 0 ∷ 1 ∷ 1 ∷ 1 ∷ 14 ∷ 139 ∷ 139 ∷ 139 ∷ 12 ∷ 30 ∷ 171 ∷ 17 ∷ 179 ∷ 12 ∷ 36 ∷ 177 ∷ 12 ∷ 37 ∷ 0 ∷ 0 ∷ 0 ∷ 0 ∷ 0 ∷ 1 ∷ 1 ∷ 1 ∷ 2 ∷ 14 ∷ 0 ∷ 0 ∷ 0 ∷ 1 ∷ 1 ∷ 1 ∷ 3 ∷ 140 ∷ 18 ∷ []) ≡ Err MalformedFont
unfolding cff_parts past_header name_bytes name_index top_index top_dict string_index subroutine_index index_of index_body index_data byte card part entries entries_in entry_at entry_in dict_number_from integer_from short_integer char_strings at_offset offset_operand range_operands string_operand as_i32 as_u32 in_i32 opened opened_parts opened_cid font_dicts font_dict_select select_at private_in local_subroutines
one_operand = refl

-- in a font dict that no glyph has
unused_dict : opened (1 ∷ 0 ∷ 4 ∷ 1 ∷ 0 ∷ 1 ∷ 1 ∷ 1 ∷ 2 ∷ 65 ∷ 0 ∷ 1 ∷ 1 ∷ 1 ∷ 14 ∷ 139 ∷ 139 ∷ 139 ∷ 12 ∷ 30 ∷ 171 ∷ 17 ∷ 179 ∷ 12 ∷ 36 ∷ 177 ∷ 12 ∷ 37 ∷ 0 ∷ 0 ∷ 0 ∷ 0 ∷ 0 ∷ 1 ∷ 1 ∷ 1 ∷ 2 ∷ 14 ∷ 0 ∷ 0 ∷ 0 ∷ 2 ∷ 1 ∷ 1 ∷ 1 ∷ 4 ∷ 140 ∷ 246 ∷ 18 ∷ []) ≡ Err MalformedFont
unfolding cff_parts past_header name_bytes name_index top_index top_dict string_index subroutine_index index_of index_body index_data byte card part entries entries_in entry_at entry_in dict_number_from integer_from short_integer char_strings at_offset offset_operand range_operands string_operand as_i32 as_u32 in_i32 opened opened_parts opened_cid font_dicts font_dict_select select_at private_in local_subroutines
unused_dict = refl

-- Subrs that lead outside
no_locals : opened (1 ∷ 0 ∷ 4 ∷ 1 ∷ 0 ∷ 1 ∷ 1 ∷ 1 ∷ 2 ∷ 65 ∷ 0 ∷ 1 ∷ 1 ∷ 1 ∷ 14 ∷ 139 ∷ 139 ∷ 139 ∷ 12 ∷ 30 ∷ 171 ∷ 17 ∷ 179 ∷ 12 ∷ 36 ∷ 177 ∷ 12 ∷ 37 ∷ 0 ∷ 0 ∷ 0 ∷ 0 ∷ 0 ∷ 1 ∷ 1 ∷ 1 ∷ 2 ∷ 14 ∷ 0 ∷ 0 ∷ 0 ∷ 1 ∷ 1 ∷ 1 ∷ 4 ∷ 141 ∷ 187 ∷ 18 ∷ 141 ∷ 19 ∷ []) ≡ Err MalformedFont
unfolding cff_parts past_header name_bytes name_index top_index top_dict string_index subroutine_index index_of index_body index_data byte card part entries entries_in entry_at entry_in dict_number_from integer_from short_integer char_strings at_offset offset_operand range_operands string_operand as_i32 as_u32 in_i32 opened opened_parts opened_cid font_dicts font_dict_select select_at private_in local_subroutines
no_locals = refl

-- Subrs with two operands mean none
wrong_locals : is_ok (opened (1 ∷ 0 ∷ 4 ∷ 1 ∷ 0 ∷ 1 ∷ 1 ∷ 1 ∷ 2 ∷ 65 ∷ 0 ∷ 1 ∷ 1 ∷ 1 ∷ 14 ∷ 139 ∷ 139 ∷ 139 ∷ 12 ∷ 30 ∷ 171 ∷ 17 ∷ 179 ∷ 12 ∷ 36 ∷ 177 ∷ 12 ∷ 37 ∷ 0 ∷ 0 ∷ 0 ∷ 0 ∷ 0 ∷ 1 ∷ 1 ∷ 1 ∷ 2 ∷ 14 ∷ 0 ∷ 0 ∷ 0 ∷ 1 ∷ 1 ∷ 1 ∷ 4 ∷ 142 ∷ 187 ∷ 18 ∷ 141 ∷ 141 ∷ 19 ∷ [])) ≡ true
unfolding cff_parts past_header name_bytes name_index top_index top_dict string_index subroutine_index index_of index_body index_data byte card part entries entries_in entry_at entry_in dict_number_from integer_from short_integer char_strings at_offset offset_operand range_operands string_operand as_i32 as_u32 in_i32 opened opened_parts opened_cid font_dicts font_dict_select select_at private_in local_subroutines
wrong_locals = refl

-- the Private entry of a SID font may lead outside
sid_private : is_ok (opened (1 ∷ 0 ∷ 4 ∷ 1 ∷ 0 ∷ 1 ∷ 1 ∷ 1 ∷ 2 ∷ 65 ∷ 0 ∷ 1 ∷ 1 ∷ 1 ∷ 6 ∷ 140 ∷ 246 ∷ 18 ∷ 163 ∷ 17 ∷ 0 ∷ 0 ∷ 0 ∷ 0 ∷ 0 ∷ 1 ∷ 1 ∷ 1 ∷ 2 ∷ 14 ∷ [])) ≡ true
unfolding cff_parts past_header name_bytes name_index top_index top_dict string_index subroutine_index index_of index_body index_data byte card part entries entries_in entry_at entry_in dict_number_from integer_from short_integer char_strings at_offset offset_operand range_operands string_operand as_i32 as_u32 in_i32 opened opened_parts opened_cid font_dicts font_dict_select select_at private_in local_subroutines
sid_private = refl
