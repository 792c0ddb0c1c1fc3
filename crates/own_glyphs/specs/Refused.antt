-- Why a font gets no own glyphs, each reason with its error.
use Rattle.std.specs.Prelude.{◌≡◌, ◌≢◌, ◌<◌, ◌≤◌, ℕ, ◌+◌, List, length, Option, Some, None, Ok, Err}
use Rattle.subsetter_base.specs.declared.error.Error.{Error}
use Rattle.subsetter_base.specs.declared.error.Error.TheVariants.{MalformedFont, OverflowError, OutOfMemory}
use Rattle.subsetter_sfnt.specs.Fields.Hmtx.{metric_in}
use Rattle.subsetter_sfnt.specs.Fields.Loca.{loca_offset}
use Rattle.subsetter_points.specs.declared.bounds.Bounds.{Bounds}
use Rattle.subsetter_sfnt.specs.Laying.Written.{kind_word}
use Rattle.subsetter_sfnt.specs.declared.flavor.FontFlavor.TheVariants.{TrueType}
use Rattle.subsetter_sfnt.specs.declared.fields.hmtx.LongHorMetric.{LongHorMetric}
use Rattle.subsetter_sfnt.specs.Plain.{file_of, opened}
use Rattle.subsetter_sfnt.specs.Read.{as_font, stored}
use Rattle.own_glyphs.specs.declared.glyph.OwnGlyph.{OwnGlyph}
use Rattle.own_glyphs.specs.Source.{AreMetrics, AreOffsets, Source, source_in}
use Rattle.own_glyphs.specs.Composite.{own_boxes}
use Rattle.own_glyphs.specs.Profile.{maxp_with, most_parts}
use Rattle.own_glyphs.specs.Written.{further, laid_with}

-- what can be wrong with the tables
pub data HasSourceFault (s : Source) : Type 0 where
  -- loca has no entry for a glyph, or none for the end
  cut_loca : (i : ℕ) → i ≤ s.count → loca_offset s.loca s.long i ≡ None → HasSourceFault s
  -- the last entry isn't the end of glyf
  other_end : (end : ℕ) → loca_offset s.loca s.long s.count ≡ Some end → end ≢ length s.glyf → HasSourceFault s
  -- hmtx has no metric for a glyph
  cut_hmtx : (g : ℕ) → g < s.count → metric_in s.hmtx s.pairs g ≡ None → HasSourceFault s

-- why the new font can't be made
pub data IsUnmade (find : List ℕ → Option (List ℕ)) (s : Source) (own : List OwnGlyph) : Error → Type 0 where
  no_memory : IsUnmade find s own OutOfMemory
  faulty : HasSourceFault s → IsUnmade find s own MalformedFont
  -- more than 65,535 glyphs
  too_many : 65535 < s.count + length own → IsUnmade find s own OverflowError
  -- a part isn't one of the font's glyphs or its outline is cut, or a side of a box hasn't 16 bits
  no_box : {e : Error} → own_boxes s own ≡ Err e → IsUnmade find s own e
  -- maxp has no limits of composites, or they haven't 16 bits
  no_profile : {e : Error} → maxp_with (s.count + length own) (most_parts own) s.maxp ≡ Err e → IsUnmade find s own e
  -- a table's place or length doesn't fit 32 bits
  too_large : {e : Error} (offsets : List ℕ) (metrics : List LongHorMetric) (boxes : List Bounds) (maxp : List ℕ)
      → AreOffsets s offsets → AreMetrics s metrics → own_boxes s own ≡ Ok boxes
      → maxp_with (s.count + length own) (most_parts own) s.maxp ≡ Ok maxp
      → file_of (kind_word TrueType) (laid_with find s offsets metrics maxp (further own boxes)) ≡ Err e
      → IsUnmade find s own e

pub data IsRefused (font : List ℕ) (own : List OwnGlyph) : Error → Type 0 where
  -- no known kind, a bad collection or a cut directory
  unopened : {e : Error} → opened (as_font font) ≡ Err e → IsRefused font own e
  -- a table is missing, or its field is cut
  unread : source_in (stored (as_font font)) ≡ None → IsRefused font own MalformedFont
  unmade : {e : Error} (s : Source) → source_in (stored (as_font font)) ≡ Some s
      → IsUnmade (stored (as_font font)) s own e
      → IsRefused font own e
