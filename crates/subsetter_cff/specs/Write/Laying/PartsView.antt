-- A new table in memory, as the parts that it is laid out for.
use Rattle.std.specs.Prelude.{◌≡◌, ℕ, List, [], ◌∷◌, ◌++◌, map, Option, Some, None}
use Rattle.std.specs.Global.{Vec}
use Rattle.std.specs.List.{concat, flat_map}
use Rattle.std.specs.Option.{option_map}
use Rattle.subsetter_cffdata.specs.Dicts.Dict.{entries, dict}
use Rattle.subsetter_cffdata.specs.Indexes.Index.{offsets, index}
use Rattle.subsetter_cffdata.specs.Views.{number_of}
use Rattle.subsetter_cff.specs.declared.write.laying.table.FontDictParts.{FontDictParts}
use Rattle.subsetter_cff.specs.declared.write.laying.table.TableParts.{TableParts}
use Rattle.subsetter_cff.specs.declared.read.string_names.StringName.{StringName}
use Rattle.subsetter_cff.specs.Write.Laying.Layout.{FontDict, Select, First, Numbers, Parts, Offsets, TopDict}
use Rattle.subsetter_cff.specs.Write.Laying.Layout.{custom_string, header, top_entries_by, number_of as number_in}
use Rattle.subsetter_cff.specs.Read.Entries.Lookup.{without}
use Rattle.subsetter_cff.specs.Read.Entries.Operators.{subroutines_operator}
use Rattle.subsetter_cff.specs.Write.Strings.SidRemapping.{name_of}
use Rattle.subsetter_cff.specs.Read.Strings.{FontString}

abbrev pub string_view : Option StringName → Option FontString
string_view name = option_map name_of name

abbrev pub font_dict_view : FontDictParts → FontDict
font_dict_view f =
    record {
      matrix = map number_of f.matrix;
      private = without subroutines_operator (entries f.private.now);
      name = string_view f.name;
    }

-- the strings of font dicts that want a number
abbrev pub dict_texts : List FontDictParts → List (List ℕ)
dict_texts fs = flat_map (λ (f : FontDictParts). custom_string (string_view f.name)) fs

abbrev pub select_of_table : Option (Vec ℕ) → Select
select_of_table None = First
select_of_table (Some numbers) = Numbers numbers.items

-- the parts, of these charstrings
abbrev pub parts_view : TableParts → List (List ℕ) → Parts
parts_view t char_strings = record {
  names = t.names.now;
  copyright = string_view t.copyright;
  notice = string_view t.notice;
  font_name = string_view t.font_name;
  matrix = map number_of t.matrix;
  box = map number_of t.font_box;
  font_dicts = map font_dict_view t.font_dicts.items;
  select = select_of_table t.numbers;
  char_strings = char_strings;
}

-- its charstrings are these
pub record HasCharStrings (t : TableParts) (char_strings : List (List ℕ)) : Type 0 where
  pub text : t.char_strings.items ≡ concat char_strings
  pub ends : t.ends.items ≡ offsets 1 char_strings

-- what the top dict says, by the strings as they are numbered
abbrev pub top_by : List (List ℕ) → TableParts → TopDict
top_by texts t = record {
  copyright = option_map (number_in texts) (string_view t.copyright);
  notice = option_map (number_in texts) (string_view t.notice);
  font_name = option_map (number_in texts) (string_view t.font_name);
  matrix = map number_of t.matrix;
  box = map number_of t.font_box;
}

-- the front, by the strings as they are numbered
unfoldable pub front_by : List (List ℕ) → TableParts → Offsets → List ℕ
front_by texts t o =
    header ++ (t.names.now ++ (index (dict (top_entries_by (top_by texts t) o) ∷ []) ++ (index texts ++ (0 ∷ 0 ∷ []))))
