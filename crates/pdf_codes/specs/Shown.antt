-- The glyphs in use, and their texts.
use Rattle.std.specs.Prelude.{ℕ, Bool, List, [], ◌∷◌, ◌++◌, map}
use Rattle.std.specs.List.{list_any}
use Rattle.pdf_codes.specs.Codes.{Used}
use Rattle.pdf_codes.specs.Units.{is_long_text, units_of}
use Rattle.pdf_codes.specs.declared.shown.Shown.{Shown}

abbrev pub use_of : Shown → Used
use_of s = record { glyph = s.glyph; units = units_of s.text.now }

abbrev pub uses_of : List Shown → List Used
uses_of shown = map use_of shown

-- whether a text is too long for a ToUnicode CMap
abbrev pub has_long_text : List Used → Bool
has_long_text us = list_any (λ u. is_long_text u.units) us

-- the texts, one after the other
abbrev pub all_units : List Used → List ℕ
all_units [] = []
all_units (u ∷ us) = u.units ++ all_units us

-- the text of each glyph
abbrev pub texts_of : List Shown → List (List ℕ)
texts_of shown = map (λ (s : Shown). s.text.now) shown
