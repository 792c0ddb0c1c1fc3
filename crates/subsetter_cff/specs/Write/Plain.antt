-- The plain way to subset a CFF table (Technical Note 5176): the parts of the new one, with the error that is returned
-- where they can't be made.
use Rattle.std.specs.Prelude.{ℕ, ◌+◌, ◌^◌, ◌==◌, nat_lt, if◌then◌else◌, true, false, List, [], ◌∷◌, length, map}
use Rattle.std.specs.Prelude.{slice_get, unwrap_or, Option, Some, None, Result, Ok}
use Rattle.std.specs.List.{concat}
use Rattle.std.specs.Option.{ok_or, option_and_then}
use Rattle.subsetter_base.specs.Bytes.{◌>>=◌}
use Rattle.subsetter_base.specs.Indexes.{index_of}
use Rattle.subsetter_base.specs.declared.error.Error.{Error}
use Rattle.subsetter_base.specs.declared.error.Error.TheVariants.{MalformedFont, SubsetError, OverflowError}
use Rattle.subsetter_cffdata.specs.Numerals.Numbers.{Number}
use Rattle.subsetter_cffdata.specs.Dicts.Dict.{Entry}
use Rattle.subsetter_type2.specs.Flat.{flat_form}
use Rattle.subsetter_cff.specs.Read.Entries.Lookup.{last_of}
use Rattle.subsetter_cff.specs.Read.Strings.{FontString, string_at}
use Rattle.subsetter_cff.specs.Read.Cff.{Cff, char_string, is_cid_keyed}
use Rattle.subsetter_cff.specs.Read.FdArray.FontDicts.{font_dicts, font_dict_number}
use Rattle.subsetter_cff.specs.Read.FdArray.Private.{Private, no_private, own_entries, private_at, private_of}
use Rattle.subsetter_cff.specs.Read.Entries.Matrices.{thousandth_matrix, zero_box}
use Rattle.subsetter_cff.specs.Read.GlyphTrace.{library}
use Rattle.subsetter_cff.specs.Read.Entries.Operators.{copyright_operator, notice_operator, font_name_operator}
use Rattle.subsetter_cff.specs.Read.Entries.Operators.{font_box_operator, font_matrix_operator}
use Rattle.subsetter_cff.specs.Write.Laying.Layout.{FontDict, Select, First, Numbers, Parts, char_strings_offset}
use Rattle.subsetter_cff.specs.Write.Laying.Layout.{cff_table}
use Rattle.subsetter_cff.specs.Write.Made.{new_matrix}
use Rattle.subsetter_cff.specs.Read.Opened.{check, opened}
use Rattle.subsetter_cff.specs.Write.NewDicts.WrittenNumbers.{any_long, written_numbers}

-- ---- the kept glyphs: their font dicts (section 19 "FDSelect") and their charstrings (Technical Note 5177)
-- the number of a glyph's font dict in the source, and its flattened charstring
pub record KeptGlyph : Type 0 where
  pub number : ℕ
  pub bytes : List ℕ

-- a font without font dicts has just one
abbrev pub source_number : Cff → ℕ → Option ℕ
source_number cff glyph = if is_cid_keyed cff then font_dict_number cff glyph else Some 0

-- its font dict, its private dict and its charstring are there, and that charstring runs to its end
unfoldable pub kept_glyph : Cff → ℕ → ℕ → ℕ → Result KeptGlyph Error
kept_glyph cff tokens depth glyph = do
  number ← ok_or (source_number cff glyph) MalformedFont
  private ← ok_or (private_of cff glyph) MalformedFont
  charstring ← ok_or (char_string cff glyph) MalformedFont
  bytes ← flat_form (library cff private) tokens depth charstring
  Ok (record { number = number; bytes = bytes })

-- one after the other, up to the first that is refused
abbrev pub kept_glyphs : Cff → ℕ → ℕ → List ℕ → Result (List KeptGlyph) Error
kept_glyphs cff tokens depth [] = Ok []
kept_glyphs cff tokens depth (g ∷ gs) = do
  first ← kept_glyph cff tokens depth g
  rest ← kept_glyphs cff tokens depth gs
  Ok (first ∷ rest)

-- ---- the used font dicts, in ascending order of their old numbers
abbrev pub with_number : ℕ → List ℕ → List ℕ
with_number n [] = n ∷ []
with_number n (m ∷ ms) = if nat_lt n m then n ∷ m ∷ ms else (if n == m then m ∷ ms else m ∷ with_number n ms)

abbrev pub used_numbers : List KeptGlyph → List ℕ
used_numbers [] = []
used_numbers (k ∷ ks) = with_number k.number (used_numbers ks)

-- what a font dict of the source says
pub record SourceDict : Type 0 where
  pub own : Option (List Number)
  pub private : Private
  pub name : Option (Option FontString)

abbrev pub as_source_dict : Cff → List Entry → Option SourceDict
as_source_dict cff dict =
    option_and_then (λ private. Some (record {
      own = last_of font_matrix_operator dict;
      private = private;
      name = string_at cff.strings font_name_operator dict;
    }))
    (private_at cff.bytes dict)

-- the font dict of a number; a font without font dicts has one, with the private dict of the top dict
abbrev pub source_dict : Cff → ℕ → Option SourceDict
source_dict cff number =
    if is_cid_keyed cff
    then option_and_then (as_source_dict cff) (option_and_then (λ dicts. slice_get dicts number) (font_dicts cff))
    else Some (record { own = None; private = unwrap_or (private_at cff.bytes cff.top) no_private; name = Some None })

-- the new font dict that is made of it, without the entries that lead to subroutines
unfoldable pub new_font_dict : Cff → ℕ → Result FontDict Error
new_font_dict cff number = do
  dict ← ok_or (source_dict cff number) MalformedFont
  name ← ok_or dict.name SubsetError
  matrix ← ok_or (new_matrix (last_of font_matrix_operator cff.top) dict.own) OverflowError
  Ok (record { matrix = matrix; private = own_entries dict.private; name = name })

abbrev pub new_font_dicts : Cff → List ℕ → Result (List FontDict) Error
new_font_dicts cff [] = Ok []
new_font_dicts cff (n ∷ ns) = do
  first ← new_font_dict cff n
  rest ← new_font_dicts cff ns
  Ok (first ∷ rest)

-- the new number of each glyph's font dict is its place among the used ones
abbrev pub new_select : Cff → List ℕ → List KeptGlyph → Select
new_select cff used kept =
    if is_cid_keyed cff then Numbers (map (λ (k : KeptGlyph). unwrap_or (index_of used k.number) 0) kept) else First

-- ---- the parts
abbrev pub all_parts : Cff → Option FontString → Option FontString → Option FontString → List FontDict → Select
    → List (List ℕ)
    → Parts
all_parts cff copyright notice font_name dicts select char_strings = record {
  names = cff.names;
  copyright = copyright;
  notice = notice;
  font_name = font_name;
  matrix = unwrap_or (last_of font_matrix_operator cff.top) thousandth_matrix;
  box = unwrap_or (last_of font_box_operator cff.top) zero_box;
  font_dicts = dicts;
  select = select;
  char_strings = char_strings;
}

abbrev pub new_parts : Cff → Option FontString → Option FontString → Option FontString → List FontDict → Select
    → List KeptGlyph
    → Parts
new_parts cff copyright notice font_name dicts select kept =
    all_parts cff copyright notice font_name dicts select (map (λ (k : KeptGlyph). k.bytes) kept)

-- the strings of the top dict, then the font dicts
unfoldable pub parts_for : Cff → List KeptGlyph → Result Parts Error
parts_for cff kept = do
  copyright ← ok_or (string_at cff.strings copyright_operator cff.top) SubsetError
  font_name ← ok_or (string_at cff.strings font_name_operator cff.top) SubsetError
  notice ← ok_or (string_at cff.strings notice_operator cff.top) SubsetError
  dicts ← new_font_dicts cff (used_numbers kept)
  Ok (new_parts cff copyright notice font_name dicts (new_select cff (used_numbers kept) kept) kept)

-- at most 255 font dicts may be used: that comes before the strings
unfoldable pub counted_parts : Cff → List KeptGlyph → Result Parts Error
counted_parts cff kept = check (nat_lt (length (used_numbers kept)) 256) OverflowError (parts_for cff kept)

-- ---- the limits
-- no real with too long a text, INDEX offsets of 32 bits, other offsets of at most 2147483647
unfoldable pub limited : Parts → Result Parts Error
limited p =
    check (if any_long (written_numbers p) then false else true) OverflowError
    (check (nat_lt (length (concat p.char_strings) + 1) (2 ^ 32)) OverflowError
    (check (nat_lt (char_strings_offset p) (2 ^ 31)) OverflowError (Ok p)))

unfoldable pub parts_of : Cff → ℕ → ℕ → List ℕ → Result Parts Error
parts_of cff tokens depth glyphs = do
  kept ← kept_glyphs cff tokens depth glyphs
  p ← counted_parts cff kept
  limited p

-- the table of a subset
unfoldable pub cff_subset : List ℕ → ℕ → ℕ → List ℕ → Result (List ℕ) Error
cff_subset bytes tokens depth glyphs = do
  cff ← opened bytes
  p ← parts_of cff tokens depth glyphs
  Ok (cff_table p)
