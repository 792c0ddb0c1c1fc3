-- A font of glyphs that are drawn at a place, read afresh from its bytes.
use Rattle.std.specs.Prelude.{◌≡◌, ◌<◌, ℕ, List, length, slice_index, Some, Ok, ℤ}
use Rattle.std.specs.Int.{w16, cast_unsigned}
use Rattle.subsetter_base.specs.Bytes.{aligned}
use Rattle.subsetter_base.specs.declared.tag.Tag.{Tag}
use Rattle.subsetter_points.specs.Simple.{parts, parts_bytes}
use Rattle.subsetter_sfnt.specs.Read.{Font, as_font, stored}
use Rattle.subsetter.specs.Glyf.Read.{outline}
use Rattle.subsetter.specs.Common.Hmtx.Read.{metric}
use Rattle.subsetter.specs.Truetype.Read.{HasGlyphCount}
use Rattle.subsetter_instance.specs.Source.{Source, normalized_coordinates, source_in}
use Rattle.subsetter_instance.specs.Glyphs.Drawn.{Drawn, drawn}

-- glyph i of a font is exactly what is drawn of glyph g of another one
pub record IsDrawnAs (source : Source) (at : List ℤ) (steps g : ℕ) (out : Font) (i : ℕ) : Type 0 where
  pub it : Drawn
  pub drawn_is : drawn source at steps g ≡ Ok it
  -- its outline is a simple one, of even length, and reads as these points; it has no instructions
  pub bytes : outline out i ≡ Some (aligned 2 (parts_bytes it.ends it.points))
  pub reads : parts (aligned 2 (parts_bytes it.ends it.points)) ≡ Some (it.ends, it.points)
  pub metrics : metric out i ≡ Some (record { advance_width = it.advance; lsb = cast_unsigned w16 it.bearing })

-- a file has these glyphs and no other, in order, each as it is drawn where the settings place the font
pub record HasGlyphsDrawn (font : Font) (settings : List (Tag × ℤ)) (glyphs out : List ℕ) : Type 0 where
  pub at : List ℤ
  pub coordinates_are : normalized_coordinates (stored font) settings ≡ Ok at
  pub source : Source
  pub source_is : source_in (stored font) (length at) ≡ Some source
  pub steps : ℕ
  pub count : HasGlyphCount (as_font out) (length glyphs)
  pub glyphs_drawn : (i : ℕ) → i < length glyphs → IsDrawnAs source at steps (slice_index glyphs i) (as_font out) i
