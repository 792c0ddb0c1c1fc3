-- A font with own glyphs, read afresh.
use Rattle.std.specs.Prelude.{◌≡◌, ◌<◌, ◌≤◌, ℕ, ◌+◌, List, length, take, drop, slice_get, codes, Option, Some, Ok}
use Rattle.subsetter_points.specs.declared.bounds.Bounds.{Bounds}
use Rattle.subsetter_sfnt.specs.Container.{IsSoundContainer}
use Rattle.subsetter_sfnt.specs.Fields.Maxp.{num_glyphs}
use Rattle.subsetter_sfnt.specs.Laying.Rows.{tags_of}
use Rattle.subsetter_sfnt.specs.Laying.Written.{kind_word}
use Rattle.subsetter_sfnt.specs.Plain.{file_of}
use Rattle.subsetter_sfnt.specs.Read.{Font, as_font, stored}
use Rattle.subsetter_sfnt.specs.declared.fields.hmtx.LongHorMetric.{LongHorMetric}
use Rattle.subsetter_sfnt.specs.declared.flavor.FontFlavor.TheVariants.{TrueType}
use Rattle.subsetter.specs.Common.Head.Read.{KeepsHead}
use Rattle.subsetter.specs.Common.Hmtx.Read.{metric}
use Rattle.subsetter.specs.Glyf.Parts.{outline_parts}
use Rattle.subsetter.specs.Glyf.Read.{outline}
use Rattle.subsetter.specs.Truetype.Read.{HasGlyphCount}
use Rattle.own_glyphs.specs.declared.glyph.OwnGlyph.{OwnGlyph}
use Rattle.own_glyphs.specs.Source.{AreMetrics, AreOffsets, Source, source_in}
use Rattle.own_glyphs.specs.Composite.{own_boxes, own_parts}
use Rattle.own_glyphs.specs.Profile.{maxp_with, most_parts}
use Rattle.own_glyphs.specs.Written.{AreSmall, drawn_in, further, laid_with}

-- a glyph has the outline and the metric that it has in another font
pub record KeepsGlyph (font out : Font) (g : ℕ) : Type 0 where
  pub drawn : (bytes : List ℕ) → outline font g ≡ Some bytes → outline out g ≡ Some bytes
  pub measured : metric out g ≡ metric font g

-- a glyph is an own one in its box: it has its outline, which is read as its parts, and its metric
pub record IsOwnGlyph (out : Font) (g : ℕ) (o : OwnGlyph) (b : Bounds) : Type 0 where
  pub drawn : outline out g ≡ Some (drawn_in o b).outline
  pub parts : outline_parts (drawn_in o b).outline ≡ Some (own_parts o.parts.now b)
  pub measured : metric out g ≡ Some (drawn_in o b).metric

-- a table has as many bytes, of which all but those between two places are the source's
pub record KeepsAround (source copy : List ℕ) (from to : ℕ) : Type 0 where
  pub same_length : length copy ≡ length source
  pub before : take from copy ≡ take from source
  pub after : drop to copy ≡ drop to source

-- a table of both fonts keeps its bytes but for those between two places
pub record KeepsBut (font out : Font) (tag : List ℕ) (from to : ℕ) : Type 0 where
  pub source : List ℕ
  pub source_is : stored font tag ≡ Some source
  pub copy : List ℕ
  pub copy_is : stored out tag ≡ Some copy
  pub kept : KeepsAround source copy from to

-- the file is byte for byte the one that the format lays out
pub record IsLaidOut (find : List ℕ → Option (List ℕ)) (s : Source) (own : List OwnGlyph) (boxes : List Bounds)
    (out : List ℕ) : Type 0 where
  pub offsets : List ℕ
  pub are_offsets : AreOffsets s offsets
  pub metrics : List LongHorMetric
  pub are_metrics : AreMetrics s metrics
  pub maxp : List ℕ
  pub maxp_is : maxp_with (s.count + length own) (most_parts own) s.maxp ≡ Ok maxp
  pub bytes : file_of (kind_word TrueType) (laid_with find s offsets metrics maxp (further own boxes)) ≡ Ok out

-- a file was made, of few glyphs with metrics of 16 bits
pub record IsMade (find : List ℕ → Option (List ℕ)) (s : Source) (own : List OwnGlyph) (out : List ℕ) : Type 0 where
  pub few : s.count + length own ≤ 65535
  pub boxes : List Bounds
  pub boxes_are : own_boxes s own ≡ Ok boxes
  pub small : AreSmall (further own boxes)
  pub layout : IsLaidOut find s own boxes out

-- the font's glyphs, and after them the own ones
pub record HasOwnGlyphs (font : List ℕ) (own : List OwnGlyph) (out : List ℕ) : Type 0 where
  pub source : Source
  pub source_is : source_in (stored (as_font font)) ≡ Some source
  -- a TrueType file, its directory, checksums and padding right, with the tables that a subset of the font has
  pub container : IsSoundContainer out (kind_word TrueType) (tags_of TrueType (stored (as_font font)))
  -- as many glyphs, by loca and by maxp
  pub count : HasGlyphCount (as_font out) (source.count + length own)
  pub profile : (maxp : List ℕ) → stored (as_font out) (codes "maxp") ≡ Some maxp
      → num_glyphs maxp ≡ Some (source.count + length own)
  -- the font's glyphs keep their numbers
  pub kept : (g : ℕ) → g < source.count → KeepsGlyph (as_font font) (as_font out) g
  -- the own ones follow in order, each in the least box around its parts
  pub boxes : List Bounds
  pub boxes_are : own_boxes source own ≡ Ok boxes
  pub added : (i : ℕ) (o : OwnGlyph) (b : Bounds) → slice_get own i ≡ Some o → slice_get boxes i ≡ Some b
      → IsOwnGlyph (as_font out) (source.count + i) o b
  -- head is the font's but for checksumAdjustment and indexToLocFormat, hhea but for numberOfHMetrics
  pub head : KeepsHead (as_font font) (as_font out)
  pub hhea : KeepsBut (as_font font) (as_font out) (codes "hhea") 34 36
  -- no stray byte
  pub layout : IsLaidOut (stored (as_font font)) source own boxes out
  -- these tables are the font's, byte for byte
  pub control_values : stored (as_font out) (codes "cvt ") ≡ stored (as_font font) (codes "cvt ")
  pub font_program : stored (as_font out) (codes "fpgm") ≡ stored (as_font font) (codes "fpgm")
  pub control_program : stored (as_font out) (codes "prep") ≡ stored (as_font font) (codes "prep")
  pub names : stored (as_font out) (codes "name") ≡ stored (as_font font) (codes "name")
  pub glyph_names : stored (as_font out) (codes "post") ≡ stored (as_font font) (codes "post")
