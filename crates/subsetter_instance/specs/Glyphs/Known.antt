-- What the advances of glyphs vary by, as far as it is known.
use Rattle.std.specs.Prelude.{◌≡◌, ℕ, List, map, Option, IfSome, Result, ℤ}
use Rattle.subsetter_base.specs.declared.error.Error.{Error}
use Rattle.subsetter_variation.specs.Items.Advances.{advance_or_fault}

-- a delta is that of a glyph by HVAR
abbrev pub IsKnown : Option (List ℕ) → List ℤ → ℕ → Option (Result ℤ Error) → Type 0
IsKnown hvar at g known = IfSome hvar (λ h. IfSome known (λ d. d ≡ advance_or_fault h at g))

-- deltas are those of glyphs, one for each
abbrev pub AreKnown : Option (List ℕ) → List ℤ → List ℕ → List (Result ℤ Error) → Type 0
AreKnown hvar at glyphs known = IfSome hvar (λ h. known ≡ map (advance_or_fault h at) glyphs)
