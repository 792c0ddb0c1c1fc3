-- The parts that are made of a source: what of it they keep (Technical Note 5176).
use Rattle.std.specs.Prelude.{◌≡◌, ℕ, ◌<◌, ◌≤◌, List, length, slice_index, slice_get, unwrap_or, Option, Some, None, Ok}
use Rattle.subsetter_cffdata.specs.Numerals.Numbers.{Number}
use Rattle.subsetter_cffdata.specs.Numerals.Values.{by_1000}
use Rattle.subsetter_type2.specs.Flat.{flat_form}
use Rattle.subsetter_cff.specs.Read.Entries.Lookup.{last_of}
use Rattle.subsetter_cff.specs.Read.Strings.{string_at}
use Rattle.subsetter_cff.specs.Read.Cff.{Cff, cff_parts, char_string}
use Rattle.subsetter_cff.specs.Read.FdArray.Private.{Private, private_of, own_entries}
use Rattle.subsetter_cff.specs.Read.Entries.Matrices.{thousandth_matrix, unit_matrix, zero_box, font_dict_name}
use Rattle.subsetter_cff.specs.Read.Entries.Matrices.{own_matrix}
use Rattle.subsetter_cff.specs.Read.GlyphTrace.{library}
use Rattle.subsetter_cff.specs.Read.Entries.Operators.{copyright_operator, notice_operator, font_name_operator}
use Rattle.subsetter_cff.specs.Read.Entries.Operators.{font_box_operator, font_matrix_operator}
use Rattle.subsetter_cff.specs.Write.Laying.Layout.{Parts, FontDict, cff_table}
use Rattle.subsetter_cff.specs.Write.Laying.Fits.{Fits}
use Rattle.subsetter_cff.specs.Write.Subset.{IsCffSubset}
use Rattle.subsetter_cff.specs.Write.Laying.ReadsAs.{font_dict_in}

-- the matrix that is written for a font dict: its own, or 1 0 0 1 0 0; where the font has none, its own with the first
-- four numbers a thousand times as great (section 9 "Top DICT Data" and section 18 "CID-keyed Fonts")
abbrev pub new_matrix : Option (List Number) → Option (List Number) → Option (List Number)
new_matrix top None = Some unit_matrix
new_matrix (Some top) (Some own) = Some own
new_matrix None (Some own) = by_1000 own

-- new glyph i is made of an old one
pub record MadeGlyph (source : Cff) (tokens depth old : ℕ) (p : Parts) (i : ℕ) : Type 0 where
  pub font_dict : FontDict
  pub font_dict_is : font_dict_in p i ≡ Some font_dict
  pub private_dict : Private
  pub private_dict_is : private_of source old ≡ Some private_dict
  pub private : font_dict.private ≡ own_entries private_dict
  pub own : Option (List Number)
  pub own_is : own_matrix source old ≡ Some own
  pub matrix : new_matrix (last_of font_matrix_operator source.top) own ≡ Some font_dict.matrix
  pub name : font_dict_name source old ≡ Some font_dict.name
  pub charstring : List ℕ
  pub charstring_is : char_string source old ≡ Some charstring
  pub bytes : List ℕ
  pub bytes_are : slice_get p.char_strings i ≡ Some bytes
  pub flat : flat_form (library source private_dict) tokens depth charstring ≡ Ok bytes

pub record IsMade (source : Cff) (tokens depth : ℕ) (glyphs : List ℕ) (p : Parts) : Type 0 where
  pub names : p.names ≡ source.names
  pub copyright : string_at source.strings copyright_operator source.top ≡ Some p.copyright
  pub notice : string_at source.strings notice_operator source.top ≡ Some p.notice
  pub font_name : string_at source.strings font_name_operator source.top ≡ Some p.font_name
  pub matrix : p.matrix ≡ unwrap_or (last_of font_matrix_operator source.top) thousandth_matrix
  pub box : p.box ≡ unwrap_or (last_of font_box_operator source.top) zero_box
  pub count : length p.char_strings ≡ length glyphs
  pub made : (i : ℕ) → i < length glyphs → MadeGlyph source tokens depth (slice_index glyphs i) p i

-- Where the parts are made of a source, the table that is laid out for them, read afresh, is a subset of it.
abbrev pub MadeIsSubset : Type 0
MadeIsSubset =
    (source : Cff) (tokens depth : ℕ) (glyphs : List ℕ) (p : Parts) → 1 ≤ depth → IsMade source tokens depth glyphs p
    → Fits p
    → (out : Cff) × ((cff_parts (cff_table p) ≡ Some out) × IsCffSubset source tokens depth glyphs out)
