-- What the static font of a font with outlines in CFF2 is, read afresh from the bytes of the file.
use Rattle.std.specs.Prelude.{◌≡◌, ◌<◌, ℕ, List, codes, Contains, Option, None, Some, Ok, ℤ}
use Rattle.subsetter_base.specs.declared.tag.Tag.{Tag}
use Rattle.subsetter_sfnt.specs.declared.fields.hmtx.LongHorMetric.{LongHorMetric}
use Rattle.subsetter_sfnt.specs.declared.flavor.FontFlavor.TheVariants.{Cff}
use Rattle.subsetter_sfnt.specs.Container.{IsSoundContainer}
use Rattle.subsetter_sfnt.specs.Read.{Font, as_font, stored}
use Rattle.subsetter_sfnt.specs.Laying.Written.{kind_word}
use Rattle.subsetter_instance.specs.Instance.{KeepsTable, KeepsBytes, HasBytes, KeepsHeader}
use Rattle.subsetter_instance.specs.Source.{normalized_coordinates}
use Rattle.subsetter_instance.specs.Tables.Lines.{Lines, lines_of, with_lines}
use Rattle.subsetter_instance.specs.declared.tables.extremes.Extents.{Extents}
use Rattle.subsetter_instance.specs.Tables.Extremes.{box_bytes}
use Rattle.subsetter_points.specs.declared.bounds.Bounds.{Bounds}
use Rattle.subsetter_cff_at.specs.Boxes.{table_boxes}
use Rattle.subsetter_cff_at.specs.Promise.{IsTableAt}
use Rattle.subsetter_cff_instance.specs.Boxes.{all_extents, among, with_bearing}
use Rattle.subsetter_cff_instance.specs.Metrics.{metrics_by_glyph, no_metric, varied_metric, varied_metrics}
use Rattle.subsetter_cff_instance.specs.Plain.{request_at, cff_instance_of}
use Rattle.subsetter_cff_instance.specs.Source.{Source, metric, source_in}
use Rattle.subsetter_cff_instance.specs.Tables.{extreme_bytes, tags_with}

-- a glyph of the file has the advance that the font's has at a location, and the bearing of its box
pub record HasMetricAt (s out : Source) (at : List ℤ) (boxes : List (Option Bounds)) (g : ℕ) : Type 0 where
  pub it : LongHorMetric
  pub varied_is : varied_metric s at g ≡ Ok it
  pub reads : metric out g ≡ Some (with_bearing (among boxes g) it)

pub record IsCffInstance (font : Font) (settings : List (Tag × ℤ)) (glyphs : List ℕ) (file : List ℕ) : Type 0 where
  -- outlines in CFF2, and none of another kind
  pub cff2 : List ℕ
  pub cff2_is : stored font (codes "CFF2") ≡ Some cff2
  pub no_glyf : stored font (codes "glyf") ≡ None
  pub no_cff : stored font (codes "CFF ") ≡ None
  -- the location, and hhea and post there, of which some metrics vary
  pub at : List ℤ
  pub coordinates_are : normalized_coordinates (stored font) settings ≡ Ok at
  pub lines : Lines
  pub lines_are : lines_of (stored font) settings at ≡ Ok lines
  -- a file of outlines in `CFF `, its directory, checksums and padding right, with these tables alone
  pub container : IsSoundContainer file (kind_word Cff) (tags_with (with_lines (stored font) lines))
  -- the headers and the metrics that are read of the font
  pub source : Source
  pub source_is : source_in (stored font) ≡ Some source
  -- the file's own
  pub out : Source
  pub out_is : source_in (stored (as_font file)) ≡ Some out
  -- the metrics of the glyphs that were asked for, in their order
  pub metrics : List LongHorMetric
  pub metrics_are : varied_metrics source at glyphs ≡ Ok metrics
  -- the outlines: in some number of tokens and some depth each glyph that was asked for is drawn, with its advance as
  -- its width, and each other one is empty; there are none in glyf
  pub tokens : ℕ
  pub depth : ℕ
  pub table : List ℕ
  pub table_is : stored (as_font file) (codes "CFF ") ≡ Some table
  pub alone : stored (as_font file) (codes "glyf") ≡ None
  pub outlines : IsTableAt cff2
      (request_at glyphs (record { at = at; source = source; metrics = metrics; lines = lines })) tokens depth table
  -- the metric of each glyph that was asked for, read afresh, with the bearing of the box of its charstring, and of
  -- each other one
  pub requests : (g : ℕ) → Contains glyphs g → HasMetricAt source out at (table_boxes table) g
  pub others : (g : ℕ) → g < source.count → (Contains glyphs g → ⊥) → metric out g ≡ Some no_metric
  -- as many glyphs as the font has
  pub count : out.count ≡ source.count
  pub number_of_h_metrics : out.number_of_h_metrics ≡ source.count
  -- the extents of what is drawn, by the boxes of the charstrings
  pub extents : Option Extents
  pub extents_are : extents ≡ all_extents (metrics_by_glyph glyphs metrics source.count) (table_boxes table)
  -- head but for checksumAdjustment and the box, which is the least one around what is drawn
  pub head : KeepsHeader (stored font) (as_font file) (codes "head") 8 44
  pub head_middle : KeepsBytes (stored font) (as_font file) (codes "head") 12 36
  pub head_box : HasBytes (as_font file) (codes "head") 36 44 (box_bytes extents)
  -- hhea, as it varies, but for the extremes of what is drawn and numberOfHMetrics
  pub hhea : KeepsHeader (with_lines (stored font) lines) (as_font file) (codes "hhea") 10 36
  pub hhea_extremes : HasBytes (as_font file) (codes "hhea") 10 18 (extreme_bytes metrics extents)
  pub hhea_middle : KeepsBytes (with_lines (stored font) lines) (as_font file) (codes "hhea") 18 34
  -- maxp and name, and post as it varies, byte for byte
  pub maxp : KeepsTable (stored font) (as_font file) (codes "maxp")
  pub name : KeepsTable (stored font) (as_font file) (codes "name")
  pub post : KeepsTable (with_lines (stored font) lines) (as_font file) (codes "post")
  -- byte for byte what the plain way lays out
  pub layout : cff_instance_of font settings glyphs tokens depth ≡ Ok file
