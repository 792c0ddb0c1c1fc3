-- The parts of a new table, by the numbers of the kept glyphs' font dicts in the source.
use Rattle.std.specs.Prelude.{ℕ, if◌then◌else◌, List, ◌++◌, map, Option, None, Result, Ok}
use Rattle.std.specs.Option.{option_map, ok_or}
use Rattle.subsetter_base.specs.Bytes.{◌>>=◌}
use Rattle.subsetter_base.specs.declared.error.Error.{Error}
use Rattle.subsetter_base.specs.declared.error.Error.TheVariants.{SubsetError, OverflowError}
use Rattle.subsetter_cffdata.specs.Numerals.Numbers.{Number}
use Rattle.subsetter_cff.specs.declared.read.fd_array.font_dict.FontDict.{FontDict as StoredDict}
use Rattle.subsetter_cff.specs.Read.Cff.{Cff, is_cid_keyed}
use Rattle.subsetter_cff.specs.Write.Laying.Layout.{FontDict, Select, First, Numbers, Parts}
use Rattle.subsetter_cff.specs.Write.Made.{new_matrix}
use Rattle.subsetter_cff.specs.Read.Entries.Matrices.{unit_matrix}
use Rattle.subsetter_cff.specs.Write.NewDicts.MatrixView.{shown}
use Rattle.subsetter_cff.specs.Read.Entries.Operators.{copyright_operator, notice_operator, font_name_operator}
use Rattle.subsetter_cff.specs.Write.Plain.{SourceDict, new_font_dicts, all_parts}
use Rattle.subsetter_cff.specs.Read.FdArray.Private.{Private, own_entries}
use Rattle.subsetter_cff.specs.Read.FdArray.PrivateView.{private_view}
use Rattle.subsetter_cff.specs.Write.Strings.SidRemapping.{named}
use Rattle.subsetter_cff.specs.Read.Strings.{string_at}
use Rattle.subsetter_cff.specs.Write.NewDicts.UsedFontDicts.{counted_font_dicts}
use Rattle.subsetter_base.specs.Indexes.{new_index}

-- what a font dict in memory says
abbrev pub stored_dict : List (Option (List ℕ)) → StoredDict → SourceDict
stored_dict strings f =
    record {
      own = shown f.entries.font_matrix;
      private = private_view f.private;
      name = named strings (option_map (λ s. s.0) f.entries.font_name);
    }

-- the font dict that is written for one of the source
unfoldable pub made_dict : Option (List Number) → SourceDict → Result FontDict Error
made_dict top dict = do
  name ← ok_or dict.name SubsetError
  matrix ← ok_or (new_matrix top dict.own) OverflowError
  Ok (record { matrix = matrix; private = own_entries dict.private; name = name })

-- that of a font without font dicts
abbrev pub only_font_dict : Private → FontDict
only_font_dict private = record { matrix = unit_matrix; private = own_entries private; name = None }

-- font dicts after others
abbrev pub with_dicts : List FontDict → Result (List FontDict) Error → Result (List FontDict) Error
with_dicts front read = read >>= λ more. Ok (front ++ more)

abbrev pub select_by : Cff → List ℕ → List ℕ → Select
select_by cff used numbers = if is_cid_keyed cff then Numbers (map (new_index used) numbers) else First

-- the parts of glyphs that have these font dicts and these charstrings
unfoldable pub parts_by : Cff → List ℕ → List (List ℕ) → Result Parts Error
parts_by cff numbers char_strings = do
  used ← counted_font_dicts numbers
  copyright ← ok_or (string_at cff.strings copyright_operator cff.top) SubsetError
  font_name ← ok_or (string_at cff.strings font_name_operator cff.top) SubsetError
  notice ← ok_or (string_at cff.strings notice_operator cff.top) SubsetError
  dicts ← new_font_dicts cff used
  Ok (all_parts cff copyright notice font_name dicts (select_by cff used numbers) char_strings)
