-- A font of glyphs that outlines of CFF2 draw at a location, read afresh from its bytes (OpenType, "CFF2"; Technical
-- Notes 5176 and 5177).
use Rattle.std.specs.Prelude.{◌≡◌, ◌<◌, ◌≤◌, ℕ, ℤ, pos, List, [], length, map, slice_index, codes, Contains, Option}
use Rattle.std.specs.Prelude.{Some, None, Ok}
use Rattle.subsetter_base.specs.declared.tag.Tag.{Tag}
use Rattle.subsetter_cffdata.specs.Numerals.Numbers.{Number, Integer}
use Rattle.subsetter_cffdata.specs.Numerals.Values.{value}
use Rattle.subsetter_sfnt.specs.declared.fields.hmtx.LongHorMetric.{LongHorMetric}
use Rattle.subsetter_sfnt.specs.Read.{Font, as_font, stored}
use Rattle.subsetter_cff.specs.Read.Cff.{Cff, cff_parts, char_strings, char_string}
use Rattle.subsetter_cff.specs.Read.Charset.{cid_of}
use Rattle.subsetter_cff.specs.Read.Entries.Lookup.{last_of}
use Rattle.subsetter_cff.specs.Read.Entries.Matrices.{stated_matrices, unit_matrix}
use Rattle.subsetter_cff.specs.Read.Entries.Operators.{font_box_operator}
use Rattle.subsetter_cff.specs.Read.FdArray.Keying.{keying}
use Rattle.subsetter_cff.specs.Read.FdArray.Private.{private_entries}
use Rattle.subsetter_cff.specs.Read.GlyphTrace.{glyph_trace}
use Rattle.subsetter_cff.specs.Write.Laying.ReadsAs.{adobe_identity}
use Rattle.subsetter.specs.Common.Hmtx.Read.{metric}
use Rattle.subsetter_blend.specs.Laws.{IsDrawnAndWritten, cost}
use Rattle.subsetter_blend.specs.Writing.Written.{written_events}
use Rattle.subsetter_cff2.specs.Cff2.{Cff2, cff2_parts}
use Rattle.subsetter_cff2.specs.Made2.{new_matrix}
use Rattle.subsetter_cff2.specs.PrivateDicts.Private2 as source
use Rattle.subsetter_cff2.specs.PrivateDicts.Private2.{Private2}
use Rattle.subsetter_cff2.specs.PrivateDicts.PrivateAt.{Placed, private_at_location}
use Rattle.subsetter_cff2.specs.Variation.{Variation, optional_variation}
use Rattle.subsetter_cff_at.specs.Plain.{setting}
use Rattle.subsetter_cff_at.specs.Units.{top_matrix}
use Rattle.subsetter_instance.specs.Source.{normalized_coordinates}
use Rattle.subsetter_boxes.specs.CharstringBox.{charstring_box}
use Rattle.subsetter_boxes.specs.Joined.{font_box, least_box}
use Rattle.subsetter_points.specs.declared.bounds.Bounds.{Bounds}
use Rattle.subsetter_cff_instance.specs.Boxes.{among, with_bearing}
use Rattle.subsetter_cff_instance.specs.Metrics.{varied_metric}
use Rattle.subsetter_cff_instance.specs.Source.{Source, source_in}

-- what a font varies by at a location, and how far its charstrings may run
pub record BlendedSource : Type 0 where
  -- the outlines, and what varies them
  pub outlines : Cff2
  pub variation : Option Variation
  -- the metrics, and the normalized coordinates
  pub metrics : Source
  pub at : List ℤ
  pub tokens : ℕ
  pub depth : ℕ

-- glyph i of a font draws what glyph g of another one draws at a location, each coordinate and each edge of a stem
-- rounded once
pub record IsBlendedAs (s : BlendedSource) (g : ℕ) (out : Font) (copy : Cff) (i : ℕ) : Type 0 where
  -- its advance as HVAR varies it
  pub its : LongHorMetric
  pub varied_is : varied_metric s.metrics s.at g ≡ Ok its
  -- its private dict has the entries of the source's, with each blend resolved
  pub private : Private2
  pub private_is : source.private_of s.outlines g ≡ Some private
  pub location : Placed
  pub location_is : private_at_location s.variation private.dict ≡ Some location
  pub entries_are : private_entries copy i ≡ Some location.entries
  -- its charstring
  pub charstring : List ℕ
  pub charstring_is : source.char_string s.outlines g ≡ Some charstring
  pub bytes : List ℕ
  pub bytes_are : char_string copy i ≡ Some bytes
  -- the advance, and the left side bearing of the charstring's box
  pub metric_is : metric out i ≡ Some (with_bearing (charstring_box bytes) its)
  -- draws and hints what the source's does, each coordinate and each edge rounded once, with the advance as its width
  pub drawn : IsDrawnAndWritten (setting s.outlines s.variation private.subroutines)
      s.tokens s.depth location.data_index (pos its.advance_width) charstring bytes
  -- and any run in the new font finds that, by as many tokens as it has
  pub trace_is : (n deep : ℕ) → 1 ≤ deep → cost (written_events drawn.written.whole) ≤ n
      → glyph_trace copy n deep i ≡ Some (record { events = written_events drawn.written.whole; left = [] })
  -- its CID is its number
  pub cid_is : cid_of copy i ≡ Some i

-- a file has these glyphs and no other, in order, each as outlines of CFF2 draw it where the settings place the font
pub record HasGlyphsBlended (font : Font) (settings : List (Tag × ℤ)) (glyphs out : List ℕ) : Type 0 where
  pub source : BlendedSource
  pub coordinates_are : normalized_coordinates (stored font) settings ≡ Ok source.at
  pub cff2 : List ℕ
  pub cff2_is : stored font (codes "CFF2") ≡ Some cff2
  pub outlines_are : cff2_parts cff2 (length source.at) ≡ Some source.outlines
  pub variation_is : optional_variation source.outlines.store source.at ≡ Some source.variation
  pub metrics_are : source_in (stored font) ≡ Some source.metrics
  -- the new font's outlines
  pub cff : List ℕ
  pub cff_is : stored (as_font out) (codes "CFF ") ≡ Some cff
  pub copy : Cff
  pub copy_is : cff_parts cff ≡ Some copy
  pub charstrings : List (Option (List ℕ))
  pub charstrings_are : char_strings copy ≡ Some charstrings
  pub count : length charstrings ≡ length glyphs
  pub glyphs_blended : (i : ℕ) → i < length glyphs → IsBlendedAs source (slice_index glyphs i) (as_font out) copy i
  -- CID-keyed, without subroutines
  pub keyed : keying copy ≡ Some adobe_identity
  pub no_subroutines : copy.subroutines ≡ []
  -- FontMatrix is the source's, or by unitsPerEm where it has none
  pub matrix : Option (List Number)
  pub matrix_is : top_matrix source.outlines source.metrics.units_per_em ≡ Some matrix
  pub matrices_are : (i : ℕ) → i < length glyphs
      → stated_matrices copy i ≡ Some (map value (new_matrix matrix), map value unit_matrix)
  -- FontBBox is the least box around the glyphs: of the font's, in its order, those that were asked for have the boxes
  -- of their charstrings
  pub boxes : List (Option Bounds)
  pub boxes_count : length boxes ≡ source.metrics.count
  pub boxes_are : (i : ℕ) (bytes : List ℕ) → i < length glyphs → char_string copy i ≡ Some bytes
      → among boxes (slice_index glyphs i) ≡ charstring_box bytes
  pub no_others : (g : ℕ) → g < source.metrics.count → (Contains glyphs g → ⊥) → among boxes g ≡ None
  pub box : last_of font_box_operator copy.top ≡ Some (map Integer (font_box (least_box boxes)))
