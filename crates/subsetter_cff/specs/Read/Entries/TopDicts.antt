-- What a top dict says in memory, and its faults (Technical Note 5176, section 9 "Top DICT Data").
use Rattle.std.specs.Prelude.{◌≡◌, ℕ, List, map, is_some, Option}
use Rattle.std.specs.Option.{option_map}
use Rattle.subsetter_base.specs.Options.{◌>>=◌}
use Rattle.subsetter_cffdata.specs.Dicts.Dict.{Entry}
use Rattle.subsetter_cffdata.specs.Dicts.Operands.{string_operand, offset_operand, range_operands, just}
use Rattle.subsetter_cffdata.specs.Numerals.Numbers.{Number}
use Rattle.subsetter_cffdata.specs.Views.{number_of}
use Rattle.subsetter_cff.specs.declared.read.entries.top_dict.TopDictData.{TopDictData}
use Rattle.subsetter_cff.specs.declared.read.fd_array.font_dict_entries.FontDictData.{FontDictData}
use Rattle.subsetter_cff.specs.Read.Entries.Lookup.{last_of, first_of}
use Rattle.subsetter_cff.specs.Read.Entries.Operators.{notice_operator, font_box_operator, charset_operator}
use Rattle.subsetter_cff.specs.Read.Entries.Operators.{char_strings_operator, private_operator, copyright_operator}
use Rattle.subsetter_cff.specs.Read.Entries.Operators.{font_matrix_operator, registry_operator, font_dicts_operator}
use Rattle.subsetter_cff.specs.Read.Entries.Operators.{font_dict_select_operator, font_name_operator}

-- ---- what the last entry of an operator says
abbrev pub last_string : List ℕ → List Entry → Option ℕ
last_string operator es = last_of operator es >>= string_operand

abbrev pub last_offset : List ℕ → List Entry → Option ℕ
last_offset operator es = last_of operator es >>= offset_operand

abbrev pub last_range : List ℕ → List Entry → Option (ℕ × ℕ)
last_range operator es = last_of operator es >>= range_operands

abbrev pub last_numbers : ℕ → List ℕ → List Entry → Option (List Number)
last_numbers count operator es = last_of operator es >>= just count

-- the last entry of each operator counts
pub record IsTopDict (es : List Entry) (t : TopDictData) : Type 0 where
  pub copyright : option_map (λ s. s.0) t.copyright ≡ last_string copyright_operator es
  pub notice : option_map (λ s. s.0) t.notice ≡ last_string notice_operator es
  pub font_name : option_map (λ s. s.0) t.font_name ≡ last_string font_name_operator es
  pub has_ros : t.has_ros ≡ is_some (last_of registry_operator es)
  pub font_matrix : option_map (map number_of) t.font_matrix ≡ last_numbers 6 font_matrix_operator es
  pub font_bbox : option_map (map number_of) t.font_bbox ≡ last_numbers 4 font_box_operator es
  pub charset : t.charset ≡ last_offset charset_operator es
  pub char_strings : t.char_strings ≡ last_offset char_strings_operator es
  pub fd_array : t.fd_array ≡ last_offset font_dicts_operator es
  pub fd_select : t.fd_select ≡ last_offset font_dict_select_operator es
  pub private : option_map (λ r. (r.start, r.end)) t.private ≡ last_range private_operator es

-- what the entries of a font dict say: the last FontMatrix, FontName and Private
pub record IsFontDict (es : List Entry) (f : FontDictData) : Type 0 where
  pub font_matrix : option_map (map number_of) f.font_matrix ≡ last_numbers 6 font_matrix_operator es
  pub font_name : option_map (λ s. s.0) f.font_name ≡ last_string font_name_operator es
  pub private : option_map (λ r. (r.start, r.end)) f.private ≡ last_range private_operator es

-- the first entry counts
abbrev pub first_offset : List ℕ → List Entry → Option ℕ
first_offset operator es = first_of operator es >>= offset_operand
