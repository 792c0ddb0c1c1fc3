-- What the new table says, read afresh (Technical Note 5176 and 5177).
use Rattle.std.specs.Prelude.{◌≡◌, ℕ, ℤ, pos, ◌≤◌, List, [], ◌∷◌, length, slice_get, unwrap_or, Option, Some, None}
use Rattle.subsetter_base.specs.Options.{◌>>=◌}
use Rattle.subsetter_cffdata.specs.declared.numerals.charstring_number.CharStringNumber.{CharStringNumber}
use Rattle.subsetter_type2.specs.Runs.Machine.{Trace}
use Rattle.subsetter_type2.specs.Token.{one_byte}
use Rattle.subsetter_cff.specs.Read.Charset.{cid_of}
use Rattle.subsetter_cff.specs.Read.Cff.{Cff, cff_parts, char_string, char_strings}
use Rattle.subsetter_cff.specs.Read.Entries.Lookup.{last_of}
use Rattle.subsetter_cff.specs.Read.Entries.Matrices.{font_dict_name, matrices, stated_matrices, zero_box}
use Rattle.subsetter_cff.specs.Read.Entries.Operators.{copyright_operator, notice_operator, font_name_operator}
use Rattle.subsetter_cff.specs.Read.Entries.Operators.{font_box_operator}
use Rattle.subsetter_cff.specs.Read.FdArray.Keying.{keying}
use Rattle.subsetter_cff.specs.Read.FdArray.Private.{private_entries, private_of}
use Rattle.subsetter_cff.specs.Read.GlyphTrace.{glyph_trace}
use Rattle.subsetter_cff.specs.Read.Strings.{string_at}
use Rattle.subsetter_cff.specs.Write.Laying.ReadsAs.{adobe_identity}
use Rattle.subsetter_cff.specs.Write.Subset.{Keeps}
use Rattle.pdf_widths.specs.Change.{advance_of}
use Rattle.pdf_widths.specs.Defaults.{defaults_of}
use Rattle.pdf_widths.specs.Laws.{number_list}
use Rattle.pdf_widths.specs.Opening.{opening_of}
use Rattle.cff_repeats.specs.Repeats.{endchar}

-- the advance that a glyph's charstring says, in the font's units; none of one that begins with no operator that takes
-- a width, or where a number isn't whole (Technical Note 5177, section 3.1 "Type 2 Charstring Organization")
unfoldable pub advance_in : Cff → ℕ → Option ℤ
advance_in cff glyph = do
  charstring ← char_string cff glyph
  private ← private_of cff glyph
  opening ← opening_of charstring
  advance_of (defaults_of private.entries) opening.width

-- ---- a glyph
-- new glyph i has the CID i, and the font dict of an old glyph
pub record HasDict (old new : Cff) (glyph i : ℕ) : Type 0 where
  pub cid : cid_of new i ≡ Some i
  pub private : Keeps (private_entries old glyph) (private_entries new i)
  pub matrices_kept : Keeps (matrices old glyph) (stated_matrices new i)
  pub font_dict_name_kept : Keeps (font_dict_name old glyph) (font_dict_name new i)

-- glyph i of the new table is the glyph of the old one: its dict, charstring, drawing and advance
pub record IsAgain (old new : Cff) (glyph i : ℕ) : Type 0 where
  pub dict : HasDict old new glyph i
  pub charstring : Keeps (char_string old glyph) (char_string new i)
  pub drawing : (tokens depth : ℕ) → glyph_trace new tokens depth i ≡ glyph_trace old tokens depth glyph
  pub advance : advance_in new i ≡ advance_in old glyph

-- endchar alone, after a width or without one
abbrev pub blank_trace : Option CharStringNumber → Trace
blank_trace width =
    record { events = record { operator = one_byte endchar; operands = number_list width; mask = [] } ∷ []; left = [] }

pub record IsBlank (old new : Cff) (i : ℕ) : Type 0 where
  pub dict : HasDict old new 0 i
  pub width : Option CharStringNumber
  pub drawing : (tokens depth : ℕ) → 2 ≤ tokens → 1 ≤ depth → glyph_trace new tokens depth i ≡ Some (blank_trace width)
  pub advance : advance_in new i ≡ Some (pos 0)

abbrev pub IsFigure : Cff → Cff → Option ℕ → ℕ → Type 0
IsFigure old new (Some glyph) i = IsAgain old new glyph i
IsFigure old new None i = IsBlank old new i

-- ---- the table
-- both tables can be read
pub record HasFigures (figures : List (Option ℕ)) (old new : List ℕ) : Type 0 where
  pub one : Cff
  pub one_is : cff_parts old ≡ Some one
  pub other : Cff
  pub other_is : cff_parts new ≡ Some other
  -- just these glyphs
  pub charstrings : List (Option (List ℕ))
  pub charstrings_are : char_strings other ≡ Some charstrings
  pub count : length charstrings ≡ length figures
  pub glyphs : (i : ℕ) (figure : Option ℕ) → slice_get figures i ≡ Some figure → IsFigure one other figure i
  -- CID-keyed, without subroutines
  pub keyed : keying other ≡ Some adobe_identity
  pub no_subroutines : other.subroutines ≡ []
  -- names, notices and box
  pub names : other.names ≡ one.names
  pub copyright :
      Keeps (string_at one.strings copyright_operator one.top) (string_at other.strings copyright_operator other.top)
  pub notice : Keeps (string_at one.strings notice_operator one.top) (string_at other.strings notice_operator other.top)
  pub font_name :
      Keeps (string_at one.strings font_name_operator one.top) (string_at other.strings font_name_operator other.top)
  pub box : last_of font_box_operator other.top ≡ Some (unwrap_or (last_of font_box_operator one.top) zero_box)
