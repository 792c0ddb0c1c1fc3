-- A `CFF ` table whose charstrings say other advances (Technical Note 5176, section 14 "CharStrings INDEX").
use Rattle.std.specs.Prelude.{ℕ, ◌+◌, ◌^◌, ◌==◌, ◌&&◌, ◌||◌, nat_lt, Bool, false, if◌then◌else◌, List, [], ◌∷◌, ◌++◌}
use Rattle.std.specs.Prelude.{length, take, is_some, Option, Some, None, option_map}
use Rattle.std.specs.List.{concat}
use Rattle.std.specs.Option.{option_map_or, option_or}
use Rattle.std.specs.Result.{result_ok}
use Rattle.subsetter_base.specs.Options.{◌>>=◌}
use Rattle.subsetter_cffdata.specs.Dicts.Operands.{offset_operand}
use Rattle.subsetter_cffdata.specs.Indexes.Index.{index}
use Rattle.subsetter_cff.specs.Read.Cff.{Cff, char_string, char_strings}
use Rattle.subsetter_cff.specs.Read.Entries.Lookup.{last_of}
use Rattle.subsetter_cff.specs.Read.Entries.Operators.{char_strings_operator}
use Rattle.subsetter_cff.specs.Read.FdArray.Private.{private_of}
use Rattle.subsetter_cff.specs.Read.Opened.{opened}
use Rattle.pdf_widths.specs.Change.{Change, change_of, text}
use Rattle.pdf_widths.specs.Defaults.{defaults_of}

-- ---- a glyph
-- what its charstring becomes; none where it stays as it is
unfoldable pub change_in : Cff → ℕ → ℕ → Option Change
change_in cff glyph advance = do
  charstring ← char_string cff glyph
  private ← private_of cff glyph
  change_of (defaults_of private.entries) advance charstring

-- none where it can't be read
abbrev pub charstring_in : Cff → ℕ → ℕ → Option (List ℕ)
charstring_in cff glyph advance = option_or (option_map text (change_in cff glyph advance)) (char_string cff glyph)

-- ---- glyphs from one on, with these advances
abbrev pub differs_from : Cff → ℕ → List ℕ → Bool
differs_from cff glyph [] = false
differs_from cff glyph (a ∷ advances) = is_some (change_in cff glyph a) || differs_from cff (glyph + 1) advances

abbrev pub charstrings_from : Cff → ℕ → List ℕ → Option (List (List ℕ))
charstrings_from cff glyph [] = Some []
charstrings_from cff glyph (a ∷ advances) = do
  first ← charstring_in cff glyph a
  others ← charstrings_from cff (glyph + 1) advances
  Some (first ∷ others)

-- ---- the table
-- what is before the CharStrings INDEX
abbrev pub front : Cff → Option (List ℕ)
front cff = last_of char_strings_operator cff.top >>= offset_operand >>= λ offset. Some (take offset cff.bytes)

-- an INDEX has fewer than 65536 items, and offsets of 32 bits
abbrev pub laid_out : List ℕ → List (List ℕ) → Option (List ℕ)
laid_out front charstrings =
    if nat_lt (length charstrings) 65536 && nat_lt (length (concat charstrings) + 1) (2 ^ 32)
    then Some (front ++ index charstrings)
    else None

unfoldable pub rebuilt : Cff → List ℕ → Option (List ℕ)
rebuilt cff advances = do
  start ← front cff
  charstrings ← charstrings_from cff 0 advances
  laid_out start charstrings

-- there are as many charstrings as advances
abbrev pub are_as_many : Cff → List ℕ → Bool
are_as_many cff advances =
    (option_map_or length (char_strings cff) 0 == length advances) && nat_lt (length advances) 65536

-- and one of them becomes another one
abbrev pub with_widths_of : Cff → List ℕ → Option (List ℕ)
with_widths_of cff advances =
    if are_as_many cff advances && differs_from cff 0 advances then rebuilt cff advances else None

-- of a table whose CharStrings INDEX is at its end; none where no charstring becomes another one
unfoldable pub with_widths : List ℕ → List ℕ → Option (List ℕ)
with_widths bytes advances = result_ok (opened bytes) >>= λ cff. with_widths_of cff advances
