-- How characters have codes in a table of `cmap` (OpenType, "cmap", "Platform IDs"; Apple's mapping ROMAN.TXT).
use Rattle.std.specs.Prelude.{ℕ, ◌+◌, ◌==◌, ◌&&◌, nat_le, nat_lt, Bool, if◌then◌else◌, Option, Some, None, position}
use Rattle.std.specs.Option.{option_map}
use Rattle.cmap.specs.Subtable.{is_unicode}
use Rattle.text_glyphs.specs.declared.tables.TheConstants.{MAC_ROMAN}
use Rattle.text_glyphs.specs.declared.encodings.Encoding.{Encoding}
use Rattle.text_glyphs.specs.declared.encodings.Encoding.TheVariants.{Unicode, Symbol, Roman}

-- the place of a character in the table of Mac OS Roman
unfoldable pub roman_place : ℕ → Option ℕ
roman_place c = position (λ x. x == c) MAC_ROMAN

-- its code there: below 128 that of ASCII, from 128 on those of the table
abbrev pub roman_code : ℕ → Option ℕ
roman_code c = if nat_lt c 128 then Some c else option_map (λ k. 128 + k) (roman_place c)

-- a symbol font's codes are U+F000 to U+F0FF, for the characters below 256 too
abbrev pub symbol_code : ℕ → Option ℕ
symbol_code c =
    if nat_lt c 256 then Some (0xF000 + c) else (if nat_le 0xF000 c && nat_lt c 0xF100 then Some c else None)

abbrev pub code_of : Encoding → ℕ → Option ℕ
code_of Unicode c = Some c
code_of Symbol c = symbol_code c
code_of Roman c = roman_code c

-- platformID and encodingID: 3 and 0 are "Symbol", 1 and 0 "Roman"
abbrev pub is_of : Encoding → ℕ → ℕ → Bool
is_of Unicode platform encoding = is_unicode platform encoding
is_of Symbol platform encoding = platform == 3 && encoding == 0
is_of Roman platform encoding = platform == 1 && encoding == 0
