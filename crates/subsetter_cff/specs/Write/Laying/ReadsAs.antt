-- What a table that was laid out for parts says, read afresh (Technical Note 5176).
use Rattle.std.specs.Prelude.{◌≡◌, ℕ, pos, ◌<◌, ◌≤◌, List, [], ◌++◌, length, map, codes, slice_get, slice_index, Option}
use Rattle.std.specs.Prelude.{Some, None}
use Rattle.subsetter_base.specs.Options.{◌>>=◌}
use Rattle.subsetter_cffdata.specs.Numerals.Values.{value}
use Rattle.subsetter_cff.specs.Read.Entries.Lookup.{last_of, first_of}
use Rattle.subsetter_cff.specs.Read.Strings.{Custom, string_at}
use Rattle.subsetter_cff.specs.Read.Cff.{Cff, cff_parts, char_strings}
use Rattle.subsetter_cff.specs.Read.Charset.{in_charset, cid_of}
use Rattle.subsetter_cff.specs.Read.FdArray.Keying.{Keying, keying}
use Rattle.subsetter_cff.specs.Read.FdArray.FontDicts.{font_dict_number, select_at, selected}
use Rattle.subsetter_cff.specs.Read.FdArray.Private.{private_of}
use Rattle.subsetter_cff.specs.Read.Entries.Matrices.{stated_matrices, font_dict_name}
use Rattle.subsetter_cff.specs.Read.Entries.Operators.{copyright_operator, notice_operator, font_name_operator}
use Rattle.subsetter_cff.specs.Read.Entries.Operators.{font_box_operator, subroutines_operator}
use Rattle.subsetter_cff.specs.Write.Laying.Layout.{Parts, FontDict, Select, First, Numbers, charset_bytes}
use Rattle.subsetter_cff.specs.Write.Laying.Layout.{select_bytes, cff_table}
use Rattle.subsetter_cff.specs.Write.Laying.Fits.{Fits}

-- the number of a glyph's font dict, and that font dict
abbrev pub number_in : Select → ℕ → ℕ
number_in First glyph = 0
number_in (Numbers numbers) glyph = slice_index numbers glyph

abbrev pub font_dict_in : Parts → ℕ → Option FontDict
font_dict_in p glyph = slice_get p.font_dicts (number_in p.select glyph)

-- ROS of the new font (section 18 "CID-keyed Fonts")
abbrev pub adobe_identity : Keying
adobe_identity = record { registry = Custom (codes "Adobe"); ordering = Custom (codes "Identity"); supplement = pos 0 }

-- what is read of a glyph of the new table
pub record GlyphReadsAs (p : Parts) (cff : Cff) (glyph : ℕ) : Type 0 where
  -- its CID is its number
  pub cid : cid_of cff glyph ≡ Some glyph
  pub font_dict : FontDict
  pub font_dict_is : font_dict_in p glyph ≡ Some font_dict
  -- FDSelect gives it the number of that font dict
  pub font_dict_number_is : font_dict_number cff glyph ≡ Some (number_in p.select glyph)
  -- its private dict, which leads to no subroutines
  pub private : private_of cff glyph ≡ Some (record { entries = font_dict.private; subroutines = [] })
  pub leads_nowhere : first_of subroutines_operator font_dict.private ≡ None
  pub matrices_are : stated_matrices cff glyph ≡ Some (map value p.matrix, map value font_dict.matrix)
  pub font_dict_name_is : font_dict_name cff glyph ≡ Some font_dict.name

pub record ReadsAs (p : Parts) (cff : Cff) : Type 0 where
  pub keyed : keying cff ≡ Some adobe_identity
  pub names : cff.names ≡ p.names
  pub copyright : string_at cff.strings copyright_operator cff.top ≡ Some p.copyright
  pub notice : string_at cff.strings notice_operator cff.top ≡ Some p.notice
  pub font_name : string_at cff.strings font_name_operator cff.top ≡ Some p.font_name
  pub box : last_of font_box_operator cff.top ≡ Some p.box
  -- just these charstrings, all readable
  pub charstrings : char_strings cff ≡ Some (map Some p.char_strings)
  pub no_subroutines : cff.subroutines ≡ []
  pub glyphs : (glyph : ℕ) → glyph < length p.char_strings → GlyphReadsAs p cff glyph

-- the table is read, and as these parts
pub record IsReadAs (bytes : List ℕ) (p : Parts) : Type 0 where
  pub cff : Cff
  pub read : cff_parts bytes ≡ Some cff
  pub reads : ReadsAs p cff

-- a table that was laid out is read afresh as the parts that it was laid out for
abbrev pub LaidOutIsRead : Type 0
LaidOutIsRead = (p : Parts) → Fits p → IsReadAs (cff_table p) p

-- ---- charset and FDSelect by themselves, whatever bytes follow
-- each glyph has its number as CID (section 13 "Charsets")
abbrev pub CharsetIsRead : Type 0
CharsetIsRead =
    (glyphs glyph : ℕ) (rest : List ℕ) → glyphs ≤ 65535 → glyph < glyphs
    → in_charset (charset_bytes glyphs ++ rest) glyph ≡ Some glyph

-- the first font dict, or a number for each of the glyphs
abbrev pub IsForEach : ℕ → Select → Type 0
IsForEach glyphs First = Unit {0}
IsForEach glyphs (Numbers numbers) = length numbers ≡ glyphs

-- each glyph has the font dict of the number that it was written with (section 19 "FDSelect")
abbrev pub SelectIsRead : Type 0
SelectIsRead =
    (select : Select) (glyphs glyph : ℕ) (rest : List ℕ) → IsForEach glyphs select → glyphs ≤ 65535 → glyph < glyphs
    → (select_at glyphs (select_bytes glyphs select ++ rest) >>= λ read. selected read glyph)
    ≡ Some (number_in select glyph)
