-- Glyphs of two fonts that draw alike (OpenType, "glyf").
use Rattle.std.specs.Prelude.{◌≡◌, ℕ, zero, suc, Bool, List, [], ◌∷◌, Some, if◌then◌else◌}
use Rattle.subsetter_base.specs.Bytes.{aligned}
use Rattle.subsetter_sfnt.specs.Read.{Font}
use Rattle.subsetter.specs.Glyf.Read.{Outlines, outlines}
use Rattle.subsetter.specs.Glyf.Parts.{Component, Parts, Empty, Simple, Composite}
use Rattle.subsetter.specs.Glyf.BareOutlines.Bare.{glyph_parts}

-- in the short format of loca an outline has even length: one zero byte goes after an odd one
abbrev pub padded : Bool → List ℕ → List ℕ
padded long bytes = if long then bytes else aligned 2 bytes

-- components with equal flags, arguments and transforms, whose glyphs are alike in pairs
abbrev pub SameComponents : (ℕ → ℕ → Type 0) → List Component → List Component → Type 0
SameComponents alike [] [] = Unit {0}
SameComponents alike (c ∷ cs) (d ∷ ds) =
    (d.flags ≡ c.flags) × (d.rest ≡ c.rest) × alike c.glyph d.glyph × SameComponents alike cs ds
SameComponents alike [] (d ∷ ds) = ⊥
SameComponents alike (c ∷ cs) [] = ⊥

-- equal parts, but for the numbers of the components' glyphs, which are alike, and the zero byte of the short format
abbrev pub SameParts : Bool → (ℕ → ℕ → Type 0) → Parts → Parts → Type 0
SameParts long alike Empty Empty = Unit {0}
SameParts long alike (Simple b) (Simple c) = c ≡ padded long b
SameParts long alike (Composite head chain) (Composite top copy) =
    (top ≡ head) × (copy.tail ≡ padded long chain.tail) × SameComponents alike chain.components copy.components
SameParts long alike Empty (Simple c) = ⊥
SameParts long alike Empty (Composite top copy) = ⊥
SameParts long alike (Simple b) Empty = ⊥
SameParts long alike (Simple b) (Composite top copy) = ⊥
SameParts long alike (Composite head chain) Empty = ⊥
SameParts long alike (Composite head chain) (Simple c) = ⊥

-- glyph g of a font and glyph h of another have the same parts
pub record HaveSameParts (font out : Font) (alike : ℕ → ℕ → Type 0) (g h : ℕ) : Type 0 where
  pub tables : Outlines
  pub read : outlines out ≡ Some tables
  pub source : Parts
  pub source_is : glyph_parts font g ≡ Some source
  pub copy : Parts
  pub copy_is : glyph_parts out h ≡ Some copy
  pub same : SameParts tables.long alike source copy

-- glyph g of a font and glyph h of another unfold alike to a depth
abbrev pub UnfoldAlike : Font → Font → ℕ → ℕ → ℕ → Type 0
UnfoldAlike font out zero g h = Unit {0}
UnfoldAlike font out (suc n) g h = HaveSameParts font out (UnfoldAlike font out n) g h
