-- Names by number.
use Rattle.std.specs.Prelude.{ℕ, ◌==◌, List}
use Rattle.std.specs.List.{slice_split}
use Rattle.glyph_names.specs.declared.standard.TheConstants.{MACINTOSH, STRINGS}

-- the names of the Macintosh (OpenType, "post", "Glyph names"), which the code has with a blank between each two
unfoldable pub macintosh_names : List (List ℕ)
macintosh_names = slice_split (λ b. b == 32) MACINTOSH.now

-- the standard strings of CFF (Technical Note 5176, appendix A "Standard Strings")
unfoldable pub standard_strings : List (List ℕ)
standard_strings = slice_split (λ b. b == 32) STRINGS.now
