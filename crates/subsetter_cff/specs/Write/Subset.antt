-- What a subset of a CFF table keeps (Technical Note 5176 and 5177): both tables as they are read.
use Rattle.std.specs.Prelude.{◌≡◌, ℕ, ◌<◌, List, [], length, slice_index, unwrap_or, Option, Some, None}
use Rattle.subsetter_type2.specs.Flat.{flat}
use Rattle.subsetter_cff.specs.Read.Entries.Lookup.{last_of, first_of}
use Rattle.subsetter_cff.specs.Read.Strings.{string_at}
use Rattle.subsetter_cff.specs.Read.Cff.{Cff, char_string, char_strings}
use Rattle.subsetter_cff.specs.Read.Charset.{cid_of}
use Rattle.subsetter_cff.specs.Read.FdArray.Keying.{keying}
use Rattle.subsetter_cff.specs.Read.FdArray.Private.{Private, private_of, private_entries}
use Rattle.subsetter_cff.specs.Read.Entries.Matrices.{matrices, stated_matrices, font_dict_name, zero_box}
use Rattle.subsetter_cff.specs.Read.GlyphTrace.{glyph_trace}
use Rattle.subsetter_cff.specs.Read.Entries.Operators.{copyright_operator, notice_operator, font_name_operator}
use Rattle.subsetter_cff.specs.Read.Entries.Operators.{font_box_operator, subroutines_operator}
use Rattle.subsetter_cff.specs.Write.Laying.ReadsAs.{adobe_identity}

-- both can be read, and give the same; of what a dictionary may leave out, that can be that it is left out
pub record Keeps {A : Type 0} (source copy : Option A) : Type 0 where
  pub what : A
  pub source_is : source ≡ Some what
  pub copy_is : copy ≡ Some what

-- glyph `new` draws as glyph `old`, and has its private dict, its matrices and the name of its font dict
pub record KeepsGlyph (source out : Cff) (tokens depth old new : ℕ) : Type 0 where
  pub drawing : Keeps (glyph_trace source tokens depth old) (glyph_trace out tokens depth new)
  -- the charstring is the flat form of what it draws
  pub flat_bytes : char_string out new ≡ Some (flat drawing.what)
  pub cid : cid_of out new ≡ Some new
  pub private : Keeps (private_entries source old) (private_entries out new)
  -- the private dict leads to no subroutines
  pub private_dict : Private
  pub private_dict_is : private_of out new ≡ Some private_dict
  pub no_subroutines : first_of subroutines_operator private_dict.entries ≡ None
  -- both matrices are in the new table: a source without one in its top dict gives 0.001 0 0 0.001 0 0 and a font
  -- dict's own, scaled
  pub matrices_kept : Keeps (matrices source old) (stated_matrices out new)
  pub font_dict_name_kept : Keeps (font_dict_name source old) (font_dict_name out new)

pub record IsCffSubset (source : Cff) (tokens depth : ℕ) (glyphs : List ℕ) (out : Cff) : Type 0 where
  -- just these glyphs
  pub charstrings : List (Option (List ℕ))
  pub charstrings_are : char_strings out ≡ Some charstrings
  pub count : length charstrings ≡ length glyphs
  pub kept : (i : ℕ) → i < length glyphs → KeepsGlyph source out tokens depth (slice_index glyphs i) i
  -- CID-keyed, without subroutines
  pub keyed : keying out ≡ Some adobe_identity
  pub no_subroutines : out.subroutines ≡ []
  -- names, notices and box
  pub names : out.names ≡ source.names
  pub copyright :
      Keeps (string_at source.strings copyright_operator source.top) (string_at out.strings copyright_operator out.top)
  pub notice :
      Keeps (string_at source.strings notice_operator source.top) (string_at out.strings notice_operator out.top)
  pub font_name :
      Keeps (string_at source.strings font_name_operator source.top) (string_at out.strings font_name_operator out.top)
  pub box : last_of font_box_operator out.top ≡ Some (unwrap_or (last_of font_box_operator source.top) zero_box)
