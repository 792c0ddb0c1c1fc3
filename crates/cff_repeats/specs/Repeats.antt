-- A `CFF ` table whose glyphs are glyphs of another one, in any order and any number of times, and blanks (Technical
-- Note 5176, section 18 "CID-keyed Fonts").
use Rattle.std.specs.Prelude.{ℕ, ◌==◌, ◌&&◌, nat_lt, Bool, List, [], ◌∷◌, length, Option, Some, None, Result, Ok}
use Rattle.std.specs.Option.{ok_or}
use Rattle.subsetter_base.specs.Bytes.{◌>>=◌}
use Rattle.subsetter_base.specs.declared.error.Error.{Error}
use Rattle.subsetter_base.specs.declared.error.Error.TheVariants.{MalformedFont, Unimplemented, OverflowError}
use Rattle.subsetter_cff.specs.Read.Cff.{Cff, char_string}
use Rattle.subsetter_cff.specs.Read.FdArray.Private.{Private, private_of}
use Rattle.subsetter_cff.specs.Read.Opened.{check, opened}
use Rattle.subsetter_cff.specs.Write.Laying.Layout.{cff_table}
use Rattle.subsetter_cff.specs.Write.Plain.{KeptGlyph, source_number, counted_parts, limited}
use Rattle.pdf_widths.specs.Change.{text, wanted}
use Rattle.pdf_widths.specs.Defaults.{defaults_of}

-- ---- a glyph of the old table: its charstring byte for byte (section 14 "CharStrings INDEX"),
-- and its font dict (section 19 "FDSelect")

-- there is no subroutine that a charstring under a private dict may call (section 16 "Local/Global Subrs INDEXes")
abbrev pub calls_none : Cff → Private → Bool
calls_none cff private = (length cff.subroutines == 0) && (length private.subroutines == 0)

unfoldable pub again : Cff → ℕ → Result KeptGlyph Error
again cff glyph = do
  number ← ok_or (source_number cff glyph) MalformedFont
  private ← ok_or (private_of cff glyph) MalformedFont
  charstring ← ok_or (char_string cff glyph) MalformedFont
  check (calls_none cff private) Unimplemented (Ok (record { number = number; bytes = charstring }))

-- ---- a blank
-- endchar (Technical Note 5177, section 4.2 "Operator for Finishing a Path")
abbrev pub endchar : ℕ
endchar = 14

-- endchar with the width that says 0, in the font dict of glyph 0
unfoldable pub blank : Cff → Result KeptGlyph Error
blank cff = do
  number ← ok_or (source_number cff 0) MalformedFont
  private ← ok_or (private_of cff 0) MalformedFont
  width ← ok_or (wanted (defaults_of private.entries) 0) OverflowError
  Ok (record { number = number; bytes = text (record { width = width; body = endchar ∷ [] }) })

-- ---- the new table
abbrev pub figure : Cff → Option ℕ → Result KeptGlyph Error
figure cff (Some glyph) = again cff glyph
figure cff None = blank cff

-- one after the other, up to the first that is refused
abbrev pub figures_of : Cff → List (Option ℕ) → Result (List KeptGlyph) Error
figures_of cff [] = Ok []
figures_of cff (f ∷ fs) = do
  first ← figure cff f
  rest ← figures_of cff fs
  Ok (first ∷ rest)

-- all else is as in the table of a subset that keeps glyphs with these font dicts and charstrings
unfoldable pub repeated : Cff → List (Option ℕ) → Result (List ℕ) Error
repeated cff figures = do
  kept ← figures_of cff figures
  counted ← counted_parts cff kept
  parts ← limited counted
  Ok (cff_table parts)

-- a count of glyphs is 1 to 65535
abbrev pub is_count : ℕ → Bool
is_count count = nat_lt 0 count && nat_lt count 65536

unfoldable pub with_repeats : List ℕ → List (Option ℕ) → Result (List ℕ) Error
with_repeats bytes figures =
    check (is_count (length figures)) OverflowError (opened bytes >>= λ cff. repeated cff figures)
