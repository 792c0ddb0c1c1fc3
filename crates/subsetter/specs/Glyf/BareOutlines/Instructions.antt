-- A font without instructions, read afresh (OpenType, "glyf": simple glyph description, composite glyph description).
use Rattle.std.specs.Prelude.{◌≡◌, ℕ, ◌+◌, ◌*◌, ◌<◌, false, List, ◌++◌, length, codes, Some, None}
use Rattle.std.specs.List.{AllByRecursion, flat_map}
use Rattle.subsetter_base.specs.Bytes.{number}
use Rattle.subsetter_sfnt.specs.Read.{Font, table}
use Rattle.subsetter.specs.Glyf.Read.{outline}
use Rattle.subsetter.specs.Glyf.Parts.{Component, Chain, Parts, Empty, Simple, Composite, has_instructions}
use Rattle.subsetter.specs.Glyf.Parts.{outline_parts, spelled}

-- a simple outline: the length of its instructions, which is after ten bytes of header and two for each contour, is 0
-- where a byte of the outline follows the instructions, as the flags of its points do. Instructions that reach the end
-- of an outline or past it aren't covered: these belong to an outline without points or to one that is cut, and that
-- one stays as it is
abbrev pub IsBareSimple : List ℕ → Type 0
IsBareSimple bytes =
    (contours size : ℕ) → number bytes 0 2 ≡ Some contours → number bytes (10 + 2 * contours) 2 ≡ Some size
    → 10 + 2 * contours + 2 + size < length bytes
    → size ≡ 0

-- a composite: its head and its components, of which none says that instructions follow, are all of its bytes
pub record IsBareComposite (bytes head : List ℕ) (chain : Chain) : Type 0 where
  pub flags : AllByRecursion (λ (c : Component). has_instructions c.flags ≡ false) chain.components
  pub whole : bytes ≡ head ++ flat_map spelled chain.components

abbrev pub AreBare : List ℕ → Parts → Type 0
AreBare bytes Empty = Unit {0}
AreBare bytes (Simple simple) = IsBareSimple simple
AreBare bytes (Composite head chain) = IsBareComposite bytes head chain

-- an outline that has parts, and no instructions
pub record IsBare (bytes : List ℕ) : Type 0 where
  pub parts : Parts
  pub parts_are : outline_parts bytes ≡ Some parts
  pub bare : AreBare bytes parts

-- a font has no program, and none of its outlines in `glyf` has instructions; what is said of hints in charstrings is
-- nothing
pub record HasNoInstructions (out : Font) : Type 0 where
  pub control_values : table out (codes "cvt ") ≡ None
  pub font_program : table out (codes "fpgm") ≡ None
  pub control_program : table out (codes "prep") ≡ None
  pub outlines : (g : ℕ) (bytes : List ℕ) → outline out g ≡ Some bytes → IsBare bytes
