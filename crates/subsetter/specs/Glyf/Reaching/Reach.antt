-- Which glyphs a list of glyphs reaches through components, and the order of the glyphs of a subset.
use Rattle.std.specs.Prelude.{◌≡◌, ℕ, ◌↔◌, List, ◌++◌, Option, Some, Contains}
use Rattle.subsetter_base.specs.Indexes.{IsWithoutRepeats}
use Rattle.subsetter_sfnt.specs.Read.{Font}
use Rattle.subsetter.specs.Glyf.Read.{outline}
use Rattle.subsetter.specs.Glyf.Parts.{component_numbers}

-- the glyphs at the end of a finite path that starts in the list and goes each time to a component, by the outlines
-- that a look-up finds
pub data IsReachableBy (outline_of : ℕ → Option (List ℕ)) (glyphs : List ℕ) : ℕ → Type 0 where
  given : (g : ℕ) → Contains glyphs g → IsReachableBy outline_of glyphs g
  step : (g h : ℕ) (bytes : List ℕ) → IsReachableBy outline_of glyphs g → outline_of g ≡ Some bytes
      → Contains (component_numbers bytes) h
      → IsReachableBy outline_of glyphs h

-- the same, by the outlines of a font
abbrev pub IsReachable : Font → List ℕ → ℕ → Type 0
IsReachable font glyphs g = IsReachableBy (λ h. outline font h) glyphs g

-- the glyphs of a subset: the given ones, and then each further one that they reach, once
pub record IsGlyphOrderBy (outline_of : ℕ → Option (List ℕ)) (glyphs order : List ℕ) : Type 0 where
  pub others : List ℕ
  pub begins : order ≡ glyphs ++ others
  pub once : IsWithoutRepeats order
  pub members : (g : ℕ) → Contains order g ↔ IsReachableBy outline_of glyphs g

abbrev pub IsGlyphOrder : Font → List ℕ → List ℕ → Type 0
IsGlyphOrder font glyphs order = IsGlyphOrderBy (λ h. outline font h) glyphs order
