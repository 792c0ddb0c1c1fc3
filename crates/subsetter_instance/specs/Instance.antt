-- What an instance of a font is, read afresh from the bytes of the file.
use Rattle.std.specs.Prelude.{◌≡◌, ◌<◌, ℕ, List, [], length, take, drop, slice_range, codes, Option, Some, Ok, ℤ}
use Rattle.std.specs.Int.{w16, cast_unsigned}
use Rattle.std.specs.Prelude.{Contains}
use Rattle.subsetter_base.specs.declared.tag.Tag.{Tag}
use Rattle.subsetter_points.specs.Simple.{parts, parts_bytes}
use Rattle.subsetter_base.specs.Bytes.{aligned}
use Rattle.subsetter_sfnt.specs.declared.flavor.FontFlavor.TheVariants.{TrueType}
use Rattle.subsetter_sfnt.specs.Container.{IsSoundContainer}
use Rattle.subsetter_sfnt.specs.Read.{Font, as_font, stored}
use Rattle.subsetter_sfnt.specs.Laying.Rows.{rows, present, tags}
use Rattle.subsetter_sfnt.specs.Laying.Written.{kind_word}
use Rattle.subsetter_instance.specs.Source.{Source, description, metric, normalized_coordinates, source_in}
use Rattle.subsetter_instance.specs.Glyphs.Drawn.{Drawn, drawn}
use Rattle.subsetter_instance.specs.Tables.Extremes.{all_extents, box_bytes, extreme_bytes}
use Rattle.subsetter_instance.specs.Tables.Lines.{Lines, lines_of, with_lines}
use Rattle.subsetter_instance.specs.Tables.Written.{tables}
use Rattle.subsetter_instance.specs.Plain.{drawn_all, instance_of}

-- the tags of the tables; name and post where the font has them
abbrev pub tags_with : (List ℕ → Option (List ℕ)) → List (List ℕ)
tags_with find = tags (present (rows (tables find [] [] 0 [] [])))

-- a glyph of the instance is exactly what is drawn of the font's
pub record IsDrawn (s out : Source) (at : List ℤ) (steps g : ℕ) : Type 0 where
  pub it : Drawn
  pub drawn_is : drawn s at steps g ≡ Ok it
  -- its description is these bytes, of even length, and reads as these points
  pub bytes : description out g ≡ Some (aligned 2 (parts_bytes it.ends it.points))
  pub reads : parts (aligned 2 (parts_bytes it.ends it.points)) ≡ Some (it.ends, it.points)
  pub metrics : metric out g ≡ Some (record { advance_width = it.advance; lsb = cast_unsigned w16 it.bearing })

-- a table of the file is that of the source, which a look-up finds, or neither has one
abbrev pub KeepsTable : (List ℕ → Option (List ℕ)) → Font → List ℕ → Type 0
KeepsTable find out tag = stored out tag ≡ find tag

-- a table's bytes between two places are those of the source's
abbrev pub KeepsBytes : (List ℕ → Option (List ℕ)) → Font → List ℕ → ℕ → ℕ → Type 0
KeepsBytes find out tag from to =
    (source copy : List ℕ) → find tag ≡ Some source → stored out tag ≡ Some copy
    → slice_range copy from to ≡ slice_range source from to

-- or they are these
abbrev pub HasBytes : Font → List ℕ → ℕ → ℕ → List ℕ → Type 0
HasBytes out tag from to bytes = (copy : List ℕ) → stored out tag ≡ Some copy → slice_range copy from to ≡ bytes

-- a header keeps its bytes but for those between two places
pub record KeepsHeader (find : List ℕ → Option (List ℕ)) (out : Font) (tag : List ℕ) (from to : ℕ) : Type 0 where
  pub source : List ℕ
  pub source_is : find tag ≡ Some source
  pub copy : List ℕ
  pub copy_is : stored out tag ≡ Some copy
  pub same_length : length copy ≡ length source
  pub front : take from copy ≡ take from source
  pub end : drop to copy ≡ drop to source

pub record IsInstance (font : Font) (settings : List (Tag × ℤ)) (glyphs : List ℕ) (file : List ℕ) : Type 0 where
  -- the place, and hhea and post there, of which some metrics vary
  pub at : List ℤ
  pub coordinates_are : normalized_coordinates (stored font) settings ≡ Ok at
  pub lines : Lines
  pub lines_are : lines_of (stored font) settings at ≡ Ok lines
  -- a TrueType file, its directory, checksums and padding right, with these tables alone, so that none hints
  pub container : IsSoundContainer file (kind_word TrueType) (tags_with (with_lines (stored font) lines))
  -- the tables that are drawn from
  pub source : Source
  pub source_is : source_in (stored font) (length at) ≡ Some source
  -- the file's own tables, read as those of a font without axes
  pub out : Source
  pub out_is : source_in (stored (as_font file)) 0 ≡ Some out
  -- each glyph that was asked for is drawn, in some number of steps, and each other one is empty
  pub steps : ℕ
  pub requests : (g : ℕ) → Contains glyphs g → IsDrawn source out at steps g
  pub others : (g : ℕ) → g < source.count → (Contains glyphs g → ⊥) → description out g ≡ Some []
  -- as many glyphs as the font has
  pub count : out.count ≡ source.count
  pub number_of_h_metrics : out.number_of_h_metrics ≡ source.count
  -- what is drawn of the glyphs that were asked for, in their order
  pub drawn : List Drawn
  pub all_drawn : drawn_all source at steps glyphs ≡ Ok drawn
  -- head but for checksumAdjustment, the box, which is the least one around what is drawn, and indexToLocFormat
  pub head : KeepsHeader (stored font) (as_font file) (codes "head") 8 52
  pub head_middle : KeepsBytes (stored font) (as_font file) (codes "head") 12 36
  pub head_box : HasBytes (as_font file) (codes "head") 36 44 (box_bytes (all_extents drawn))
  pub head_style : KeepsBytes (stored font) (as_font file) (codes "head") 44 50
  -- hhea, as it varies, but for the extremes of what is drawn and numberOfHMetrics
  pub hhea : KeepsHeader (with_lines (stored font) lines) (as_font file) (codes "hhea") 10 36
  pub hhea_extremes : HasBytes (as_font file) (codes "hhea") 10 18 (extreme_bytes drawn)
  pub hhea_middle : KeepsBytes (with_lines (stored font) lines) (as_font file) (codes "hhea") 18 34
  -- name, and post as it varies, byte for byte
  pub name : KeepsTable (stored font) (as_font file) (codes "name")
  pub post : KeepsTable (with_lines (stored font) lines) (as_font file) (codes "post")
  -- byte for byte what the plain way lays out
  pub layout : instance_of font settings glyphs steps ≡ Ok file
