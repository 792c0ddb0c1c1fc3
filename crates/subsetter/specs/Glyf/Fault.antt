-- The faults of the outlines of a subset, each with its error (OpenType, "glyf", "loca", "head").
use Rattle.std.specs.Prelude.{◌≡◌, ℕ, ◌<◌, ◌≤◌, List, [], ◌∷◌, length, codes, Some, None, IsSome}
use Rattle.subsetter_base.specs.declared.error.Error.{Error}
use Rattle.subsetter_base.specs.declared.error.Error.TheVariants.{MalformedFont, OverflowError}
use Rattle.subsetter_sfnt.specs.Read.{Font, table}
use Rattle.subsetter.specs.Glyf.Read.{outline}
use Rattle.subsetter.specs.Glyf.Parts.{outline_parts}
use Rattle.subsetter.specs.Glyf.Reaching.Reach.{IsReachable}
use Rattle.subsetter.specs.Glyf.BareOutlines.Size.{AreLonger}

pub data HasOutlineFault (font : Font) (glyphs : List ℕ) : Error → Type 0 where
  -- a font with `glyf` lacks `loca` or `head`
  no_loca : IsSome (table font (codes "glyf")) → table font (codes "loca") ≡ None
      → HasOutlineFault font glyphs MalformedFont
  no_head : IsSome (table font (codes "glyf")) → table font (codes "head") ≡ None
      → HasOutlineFault font glyphs MalformedFont
  -- `head` has fewer than 52 bytes, so no format of loca
  short_head : (head : List ℕ) → table font (codes "head") ≡ Some head → length head < 52
      → HasOutlineFault font glyphs MalformedFont
  -- a reached glyph's entries of loca aren't there or descend, or their range isn't inside `glyf`
  no_outline : (g : ℕ) → IsSome (table font (codes "glyf")) → IsReachable font glyphs g → outline font g ≡ None
      → HasOutlineFault font glyphs MalformedFont
  -- a reached glyph has one byte
  one_byte : (g b : ℕ) → IsReachable font glyphs g → outline font g ≡ Some (b ∷ [])
      → HasOutlineFault font glyphs MalformedFont
  -- a reached glyph is a composite that is cut
  cut_composite : (g : ℕ) (bytes : List ℕ) → IsReachable font glyphs g → outline font g ≡ Some bytes → 2 ≤ length bytes
      → outline_parts bytes ≡ None
      → HasOutlineFault font glyphs MalformedFont
  -- there is no room for a subset of all numbers
  all_reached : IsSome (table font (codes "glyf")) → ((g : ℕ) → g < 65536 → IsReachable font glyphs g)
      → HasOutlineFault font glyphs OverflowError
  -- the outlines of reached glyphs have 2 ^ 32 bytes or more in the new `glyf`
  long_outlines : IsSome (table font (codes "glyf")) → AreLonger font.extras.hinting (outline font) glyphs 4294967295
      → HasOutlineFault font glyphs OverflowError
