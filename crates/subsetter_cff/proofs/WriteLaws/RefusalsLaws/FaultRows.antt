-- Worked refusals, computed: the smallest tables on which a fault could be stated too easily.
use Rattle.std.proofs.Common.{◌≡◌, ℕ, List, [], ◌∷◌, None, refl, ap, ◌∙◌}
use Rattle.std.specs.Prelude.{pos, Err}
use Rattle.std.proofs.lemmas.Option.{none-some, same_Some}
use Rattle.subsetter_base.specs.declared.error.Error.TheVariants.{MalformedFont, SubsetError, CFFError}
use Rattle.subsetter_cffdata.specs.Bytes.{card, part}
use Rattle.subsetter_base.specs.Bytes.{byte}
use Rattle.subsetter_cffdata.specs.Numerals.Numbers.{Integer, as_i32, as_u32, in_i32, integer_from, short_integer, dict_number_from}
use Rattle.subsetter_cffdata.specs.Indexes.Index.{index_data, index_body, index_of}
use Rattle.subsetter_cffdata.specs.Dicts.Dict.{Entry, entry_in, entry_at, entries_in, entries}
use Rattle.subsetter_cffdata.specs.Dicts.Operands.{offset_operand, string_operand}
use Rattle.subsetter_type2.specs.Token.{token_of, effect_of}
use Rattle.subsetter_type2.specs.Runs.Machine.{act_at, run, outcome}
use Rattle.subsetter_cff.specs.Read.Strings.{string_of, string_at}
use Rattle.subsetter_cff.specs.Read.Cff.{past_header, name_index, top_index, string_index, subroutine_index, top_dict, name_bytes, cff_parts, at_offset, char_strings}
use Rattle.subsetter_cff.specs.Read.FdArray.Private.{private_at, private_of}
use Rattle.subsetter_cff.specs.Read.Entries.Operators.{copyright_operator}
use Rattle.subsetter_cff.specs.Read.Opened.{opened_parts, opened}
use Rattle.subsetter_cff.specs.Write.Plain.{kept_glyph, parts_for, counted_parts, parts_of, cff_subset}
use Rattle.subsetter_cff.specs.Read.Fault.{NamesNoString}

-- the table of 27 bytes with two bytes before the operator of Copyright
abbrev with_copyright : ℕ → ℕ → List ℕ
with_copyright a b = 1 ∷ 0 ∷ 4 ∷ 1 ∷ 0 ∷ 1 ∷ 1 ∷ 1 ∷ 2 ∷ 0x41 ∷ 0 ∷ 1 ∷ 1 ∷ 1 ∷ 7 ∷ a ∷ b ∷ 12 ∷ 0 ∷ 0xA4 ∷ 17 ∷ 0 ∷ 0 ∷ 0 ∷ 0 ∷ 0 ∷ 1 ∷ 1 ∷ 1 ∷ 2 ∷ 0x0E ∷ []

-- two operands, where one is demanded
two_operands : cff_subset (with_copyright 0x8B 0x8B) 1000000 64 (0 ∷ []) ≡ Err MalformedFont
unfolding cff_subset opened opened_parts cff_parts past_header name_bytes name_index top_index top_dict string_index subroutine_index index_of index_body index_data byte card part entries entries_in entry_at entry_in dict_number_from integer_from short_integer char_strings at_offset offset_operand string_operand as_i32 as_u32 in_i32
two_operands = refl

abbrev copyright_twice : List Entry
copyright_twice = record { operator = copyright_operator; operands = Integer (pos 0) ∷ Integer (pos 0) ∷ [] } ∷ []

-- no string is kept there, but none is named either: that is no fault of strings
none_kept : string_at [] copyright_operator copyright_twice ≡ None
unfolding string_operand
none_kept = refl

none_is_named : NamesNoString [] copyright_operator copyright_twice → ⊥
unfolding string_operand
none_is_named f = none-some f.number (ap string_operand (same_Some _ _ f.operands_are) ∙ f.number_is)

-- string 391, where there are none
no_string : cff_subset (with_copyright 0xF8 0x1B) 1000000 64 (0 ∷ []) ≡ Err SubsetError
unfolding cff_subset opened opened_parts cff_parts past_header name_bytes name_index top_index top_dict string_index subroutine_index index_of index_body index_data byte card part entries entries_in entry_at entry_in dict_number_from integer_from short_integer char_strings at_offset offset_operand string_operand string_of as_i32 as_u32 in_i32 parts_of parts_for counted_parts kept_glyph private_of private_at outcome run act_at token_of effect_of
no_string = refl

-- version 2, with fewer than three bytes: it has both faults
other_version : cff_subset (2 ∷ []) 1000000 64 (0 ∷ []) ≡ Err CFFError
unfolding cff_subset opened
other_version = refl
