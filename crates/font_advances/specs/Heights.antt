-- Advance heights of glyphs at coordinates, in the font's units (OpenType, "vhea", "vmtx" and "VVAR").
use Rattle.std.specs.Prelude.{◌≡◌, ℕ, List, map, Option, Some, None, IfSome, Result, ℤ}
use Rattle.std.specs.Option.{unwrap_or}
use Rattle.subsetter_base.specs.declared.error.Error.{Error}
use Rattle.subsetter_base.specs.declared.tag.Tag.{Tag}
use Rattle.subsetter_variation.specs.Items.Advances.{advance_or_fault}
use Rattle.pdf_glyphs.specs.HeightVariation.{Variation}
use Rattle.pdf_glyphs.specs.Vertical.{Vertical, advance_at}
use Rattle.pdf_source.specs.Named.{heights_there}
use Rattle.pdf_source.specs.Source.{vertical_of}

-- one em where the font has none: that of a glyph in a PDF without DW2 (ISO 32000-1, 9.7.4.3)
abbrev pub height : Vertical → Option Variation → ℕ → ℕ → ℕ
height t v units g = unwrap_or (advance_at t v g) units

-- the heights by which the columns of a PDF's font are made
abbrev pub heights_in : (List ℕ → Option (List ℕ)) → List (Tag × ℤ) → ℕ → List ℕ → List ℕ
heights_in find settings units glyphs = map (height (vertical_of find) (heights_there find settings) units) glyphs

-- ---- what is known

-- a delta is that of a glyph by VVAR
abbrev pub IsKnownBy : Option Variation → ℕ → Option (Result ℤ Error) → Type 0
IsKnownBy v g known = IfSome v (λ it. IfSome known (λ d. d ≡ advance_or_fault it.vvar it.at g))

-- deltas are those of glyphs, one for each
abbrev pub AreKnownBy : Option Variation → List ℕ → List (Result ℤ Error) → Type 0
AreKnownBy v glyphs known = IfSome v (λ it. known ≡ map (advance_or_fault it.vvar it.at) glyphs)
