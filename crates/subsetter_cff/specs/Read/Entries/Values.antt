-- What the entries of a top dict or a font dict say, each later one in the place of an earlier one.
use Rattle.std.specs.Prelude.{ℕ, if◌then◌else◌, Bool, true, false, List, [], ◌∷◌, map, Option, None}
use Rattle.std.specs.Option.{option_map}
use Rattle.std.specs.Str.{bytes_eq}
use Rattle.subsetter_cffdata.specs.Dicts.Dict.{Entry}
use Rattle.subsetter_cffdata.specs.Numerals.Numbers.{Number}
use Rattle.subsetter_cffdata.specs.Dicts.Operands.{string_operand, offset_operand, range_operands, just}
use Rattle.subsetter_cffdata.specs.Views.{number_of}
use Rattle.subsetter_cff.specs.declared.read.entries.top_dict.TopDictData.{TopDictData}
use Rattle.subsetter_cff.specs.Read.Entries.Operators.{notice_operator, font_box_operator, charset_operator}
use Rattle.subsetter_cff.specs.Read.Entries.Operators.{char_strings_operator, private_operator, copyright_operator}
use Rattle.subsetter_cff.specs.Read.Entries.Operators.{font_matrix_operator, registry_operator, font_dicts_operator}
use Rattle.subsetter_cff.specs.Read.Entries.Operators.{font_dict_select_operator, font_name_operator}

pub record DictValues : Type 0 where
  pub copyright : Option ℕ
  pub notice : Option ℕ
  pub font_name : Option ℕ
  pub has_ros : Bool
  pub font_matrix : Option (List Number)
  pub font_bbox : Option (List Number)
  pub charset : Option ℕ
  pub char_strings : Option ℕ
  pub fd_array : Option ℕ
  pub fd_select : Option ℕ
  pub private : Option (ℕ × ℕ)

abbrev pub values_of : TopDictData → DictValues
values_of t = record {
  copyright = option_map (λ s. s.0) t.copyright;
  notice = option_map (λ s. s.0) t.notice;
  font_name = option_map (λ s. s.0) t.font_name;
  has_ros = t.has_ros;
  font_matrix = option_map (map number_of) t.font_matrix;
  font_bbox = option_map (map number_of) t.font_bbox;
  charset = t.charset;
  char_strings = t.char_strings;
  fd_array = t.fd_array;
  fd_select = t.fd_select;
  private = option_map (λ r. (r.start, r.end)) t.private;
}

-- the values after one more entry
abbrev pub taken : DictValues → List ℕ → List Number → DictValues
taken s operator xs = record {
  copyright = if bytes_eq operator copyright_operator then string_operand xs else s.copyright;
  notice = if bytes_eq operator notice_operator then string_operand xs else s.notice;
  font_name = if bytes_eq operator font_name_operator then string_operand xs else s.font_name;
  has_ros = if bytes_eq operator registry_operator then true else s.has_ros;
  font_matrix = if bytes_eq operator font_matrix_operator then just 6 xs else s.font_matrix;
  font_bbox = if bytes_eq operator font_box_operator then just 4 xs else s.font_bbox;
  charset = if bytes_eq operator charset_operator then offset_operand xs else s.charset;
  char_strings = if bytes_eq operator char_strings_operator then offset_operand xs else s.char_strings;
  fd_array = if bytes_eq operator font_dicts_operator then offset_operand xs else s.fd_array;
  fd_select = if bytes_eq operator font_dict_select_operator then offset_operand xs else s.fd_select;
  private = if bytes_eq operator private_operator then range_operands xs else s.private;
}

-- the values after all entries
abbrev pub values_after : DictValues → List Entry → DictValues
values_after s [] = s
values_after s (e ∷ es) = values_after (taken s e.operator e.operands) es

abbrev pub no_values : DictValues
no_values =
    record {
      copyright = None;
      notice = None;
      font_name = None;
      has_ros = false;
      font_matrix = None;
      font_bbox = None;
      charset = None;
      char_strings = None;
      fd_array = None;
      fd_select = None;
      private = None;
    }
