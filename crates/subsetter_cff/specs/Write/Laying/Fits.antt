-- What can be laid out as a CFF table (Technical Note 5176): all but the sizes is so by itself for parts that were
-- read.
use Rattle.std.specs.Prelude.{◌≡◌, ℕ, ◌+◌, ◌<◌, ◌≤◌, ◌^◌, List, length, Option, Some, None}
use Rattle.std.specs.List.{concat, AllByRecursion}
use Rattle.subsetter_cffdata.specs.Bytes.{ReadAgain}
use Rattle.subsetter_cffdata.specs.Indexes.Index.{index_at}
use Rattle.subsetter_cffdata.specs.Dicts.Dict.{FitsNewEntry, operand_limit}
use Rattle.subsetter_cffdata.specs.Numerals.Numbers.{Number, FitsDict}
use Rattle.subsetter_cff.specs.Read.Entries.Lookup.{first_of}
use Rattle.subsetter_cff.specs.Read.Entries.Operators.{subroutines_operator}
use Rattle.subsetter_cff.specs.Read.Strings.{FontString, Standard, Custom, standard_strings}
use Rattle.subsetter_cff.specs.Write.Laying.Layout.{FontDict, Select, First, Numbers, Parts, rewritten_entries, strings}
use Rattle.subsetter_cff.specs.Write.Laying.Layout.{char_strings_offset}

-- a standard string is one of 391
abbrev pub FitsString : Option FontString → Type 0
FitsString (Some (Standard n)) = n < standard_strings
FitsString (Some (Custom s)) = Unit {0}
FitsString None = Unit {0}

-- numbers that an entry of a dict holds
pub record FitNumbers (xs : List Number) : Type 0 where
  pub each : AllByRecursion FitsDict xs
  pub few : length xs ≤ operand_limit

pub record FitsFontDict (f : FontDict) : Type 0 where
  pub matrix : FitNumbers f.matrix
  pub private : AllByRecursion FitsNewEntry (rewritten_entries f.private)
  pub no_subroutines : first_of subroutines_operator f.private ≡ None
  pub name : FitsString f.name

-- a number of a font dict for each glyph
abbrev pub FitsSelect : ℕ → ℕ → Select → Type 0
FitsSelect glyphs count First = 1 ≤ count
FitsSelect glyphs count (Numbers numbers) = (length numbers ≡ glyphs) × AllByRecursion (λ n. n < count) numbers

pub record Fits (p : Parts) : Type 0 where
  -- the Name INDEX is one
  pub name_entries : List (Option (List ℕ))
  pub names : ReadAgain index_at p.names name_entries
  pub copyright : FitsString p.copyright
  pub notice : FitsString p.notice
  pub font_name : FitsString p.font_name
  pub matrix : FitNumbers p.matrix
  pub box : FitNumbers p.box
  pub font_dicts : AllByRecursion FitsFontDict p.font_dicts
  pub select : FitsSelect (length p.char_strings) (length p.font_dicts) p.select
  -- the sizes
  pub string_count : length (strings p) + standard_strings ≤ 65536
  pub font_dict_count : length p.font_dicts ≤ 255
  pub some_glyph : 1 ≤ length p.char_strings
  pub glyph_count : length p.char_strings ≤ 65535
  pub char_strings_size : length (concat p.char_strings) + 1 < 2 ^ 32
  -- the greatest of the offsets
  pub offset : char_strings_offset p < 2 ^ 31
