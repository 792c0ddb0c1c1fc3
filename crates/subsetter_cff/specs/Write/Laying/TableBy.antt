-- A new table, by its strings as they are numbered and its charstrings one after the other.
use Rattle.std.specs.Prelude.{◌≡◌, ℕ, ◌+◌, List, [], ◌++◌, length, map}
use Rattle.subsetter_cffdata.specs.Indexes.Index.{index}
use Rattle.subsetter_cffdata.specs.Indexes.Owned.{views, FitIndex}
use Rattle.subsetter_cff.specs.declared.write.laying.table.TableParts.{TableParts}
use Rattle.subsetter_cff.specs.declared.write.laying.writing.CffPieces.{CffPieces}
use Rattle.subsetter_cff.specs.declared.write.laying.writing.Pieces.{Pieces}
use Rattle.subsetter_cff.specs.Write.Laying.Layout.{FontDict, Offsets, nowhere, charset_bytes, select_bytes, privates}
use Rattle.subsetter_cff.specs.Write.Laying.Layout.{font_dicts_from, strings, cff_table}
use Rattle.subsetter_cff.specs.Write.Glyphs.FlatIndex.{flat_index}
use Rattle.subsetter_cff.specs.Write.Laying.PartsView.{font_dict_view, select_of_table, parts_view, front_by}
use Rattle.subsetter_cff.specs.Write.Laying.PartsView.{HasCharStrings}

abbrev pub new_dicts : TableParts → List FontDict
new_dicts t = map font_dict_view t.font_dicts.items

abbrev pub front_size : List (List ℕ) → TableParts → ℕ
front_size texts t = length (front_by texts t nowhere)

-- what is between the front and the charstrings, where the front has a size
pub record ArePieces (texts : List (List ℕ)) (t : TableParts) (glyphs size : ℕ) (x : Pieces) : Type 0 where
  pub charset : x.charset ≡ length (charset_bytes glyphs)
  pub privates_are : x.privates ≡ privates (new_dicts t)
  pub select : x.select ≡ length (select_bytes glyphs (select_of_table t.numbers))
  pub font_dicts : index (views x.font_dicts.items)
      ≡ index (font_dicts_from texts (size + length (charset_bytes glyphs)) (new_dicts t))
  pub font_dicts_size : x.font_dicts_size
      ≡ length (index (font_dicts_from texts (size + length (charset_bytes glyphs)) (new_dicts t)))
  pub fits : FitIndex (views x.font_dicts.items)

-- the places of pieces after a front of a size
abbrev pub offsets_by : ℕ → ℕ → ℕ → ℕ → ℕ → Offsets
offsets_by size charset private select dicts = record {
  charset = size;
  char_strings = size + charset + private + select + dicts;
  font_dicts = size + charset + private + select;
  select = size + charset + private;
}

unfoldable pub laid_by : List (List ℕ) → TableParts → ℕ → List ℕ → List ℕ
laid_by texts t glyphs chars =
    let charset = charset_bytes glyphs in
    let dicts = index (font_dicts_from texts (front_size texts t + length charset) (new_dicts t)) in
    front_by texts t (offsets_by (front_size texts t) (length charset) (length (privates (new_dicts t)))
    (length (select_bytes glyphs (select_of_table t.numbers))) (length dicts))
    ++ (charset ++ (privates (new_dicts t) ++ (select_bytes glyphs (select_of_table t.numbers) ++ (dicts ++ chars))))

abbrev pub table_by : TableParts → List ℕ
table_by t = laid_by (strings (parts_view t [])) t (length t.ends.items) (flat_index t.char_strings.items t.ends.items)

-- the two pieces, one after the other
abbrev pub table_bytes : CffPieces → List ℕ
table_bytes t = t.front.items ++ t.char_strings.items

-- it is the table that is laid out for its parts
abbrev pub TableIsLaidOut : Type 0
TableIsLaidOut =
    (t : TableParts) (char_strings : List (List ℕ)) → HasCharStrings t char_strings
    → table_by t ≡ cff_table (parts_view t char_strings)
