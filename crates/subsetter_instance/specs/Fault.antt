-- The faults that stop an instance, each with its error.
use Rattle.std.specs.Prelude.{◌≡◌, ◌≤◌, ℕ, List, length, codes, false, Contains, None, IsSome, Ok, Some, ℤ, ◌-ℤ◌}
use Rattle.subsetter_base.specs.declared.tag.Tag.{Tag}
use Rattle.subsetter_base.specs.declared.error.Error.{Error}
use Rattle.subsetter_base.specs.declared.error.Error.TheVariants.{MalformedFont, Unimplemented, OverflowError}
use Rattle.subsetter_points.specs.declared.outline.Point.{Point}
use Rattle.subsetter_points.specs.Simple.{parts_fit}
use Rattle.subsetter_sfnt.specs.Fault.{HasOpeningFault}
use Rattle.subsetter_sfnt.specs.Read.{Font, stored}
use Rattle.subsetter_sfnt.specs.Laying.Rows.{rows, present}
use Rattle.subsetter_sfnt.specs.Laying.Written.{fits, start_of}
use Rattle.subsetter_instance.specs.Source.{Source, metric, normalized_coordinates, source_in}
use Rattle.subsetter_sfnt.specs.declared.fields.hmtx.LongHorMetric.{LongHorMetric}
use Rattle.subsetter_instance.specs.Glyphs.Unfolded.{Unfolded, unfolded}
use Rattle.subsetter_instance.specs.Faults.GlyphFault.{HasHmtxFault}
use Rattle.subsetter_instance.specs.Faults.CoordinatesFault.{HasCoordinatesFault}
use Rattle.subsetter_instance.specs.Faults.SourceFault.{HasSourceFault, HasVersionFault}
use Rattle.subsetter_instance.specs.Faults.WalkFault.{HasWalkFault}
use Rattle.subsetter_instance.specs.Faults.RoundedFault.{HasAdvanceFault, HasPointOutOfRange}
use Rattle.subsetter_instance.specs.Faults.LinesFault.{HasLinesFault}
use Rattle.subsetter_instance.specs.Glyphs.Drawn.{Drawn, levels, points_or_fault}
use Rattle.subsetter_instance.specs.Plain.{drawn_all}
use Rattle.subsetter_instance.specs.Tables.Lines.{Lines, lines_of, with_lines}
use Rattle.subsetter_instance.specs.Tables.Written.{by_glyph, tables}

-- a fault of one glyph of the tables at a place, in `steps` steps
pub data HasGlyphFault (s : Source) (at : List ℤ) (steps g : ℕ) : Error → Type 0 where
  -- maxp has fewer glyphs
  no_glyph : s.count ≤ g → HasGlyphFault s at steps g MalformedFont
  -- its metric: hhea and hmtx
  no_metric : HasHmtxFault s g → HasGlyphFault s at steps g MalformedFont
  -- its description, its variations, or a component's
  in_walk : {e : Error} → HasWalkFault s at levels steps g e → HasGlyphFault s at steps g e
  -- its advance
  in_advance : {e : Error} (m : LongHorMetric) (u : Unfolded × ℕ) → metric s g ≡ Some m
      → unfolded levels s at steps g ≡ Ok u → HasAdvanceFault s.hvar at g m.advance_width (u.0.right -ℤ u.0.left) e
      → HasGlyphFault s at steps g e
  -- a rounded coordinate has no 16 bits
  far_point : (u : Unfolded × ℕ) → unfolded levels s at steps g ≡ Ok u
      → HasPointOutOfRange u.0.left u.0.on u.0.xs u.0.ys
      → HasGlyphFault s at steps g OverflowError
  -- a delta between neighbours has no 16 bits, or there are too many points or contours
  large_outline : (u : Unfolded × ℕ) (points : List Point) → unfolded levels s at steps g ≡ Ok u
      → points_or_fault u.0.left u.0.on u.0.xs u.0.ys ≡ Ok points → parts_fit u.0.ends points ≡ false
      → HasGlyphFault s at steps g OverflowError

-- a fault of a font, for settings, glyphs and steps
pub data HasInstanceFault (font : Font) (settings : List (Tag × ℤ)) (glyphs : List ℕ) (steps : ℕ) : Error → Type 0 where
  in_opening : {e : Error} → HasOpeningFault font e → HasInstanceFault font settings glyphs steps e
  -- outlines of CFF
  no_glyf : stored font (codes "glyf") ≡ None → IsSome (stored font (codes "CFF "))
      → HasInstanceFault font settings glyphs steps Unimplemented
  -- fvar or avar
  in_place : {e : Error} → HasCoordinatesFault (stored font) e → HasInstanceFault font settings glyphs steps e
  -- the versions of gvar, HVAR and MVAR
  in_versions : {e : Error} → HasVersionFault (stored font) e → HasInstanceFault font settings glyphs steps e
  -- the tables that outlines, metrics and variations are read from
  in_source : (at : List ℤ) → normalized_coordinates (stored font) settings ≡ Ok at
      → HasSourceFault (stored font) (length at)
      → HasInstanceFault font settings glyphs steps MalformedFont
  in_glyph : {e : Error} (at : List ℤ) (s : Source) (g : ℕ) → normalized_coordinates (stored font) settings ≡ Ok at
      → source_in (stored font) (length at) ≡ Some s → Contains glyphs g → HasGlyphFault s at steps g e
      → HasInstanceFault font settings glyphs steps e
  -- a metric of hhea or post, as MVAR varies it
  in_lines : {e : Error} (at : List ℤ) → normalized_coordinates (stored font) settings ≡ Ok at
      → HasLinesFault (stored font) at e
      → HasInstanceFault font settings glyphs steps e
  -- a table's place or length doesn't fit 32 bits
  large_file : (at : List ℤ) (s : Source) (ds : List Drawn) (lines : Lines) (head : List ℕ)
      → normalized_coordinates (stored font) settings ≡ Ok at → source_in (stored font) (length at) ≡ Some s
      → drawn_all s at steps glyphs ≡ Ok ds → lines_of (stored font) settings at ≡ Ok lines
      → stored font (codes "head") ≡ Some head
      → fits
      (start_of (present
      (rows (tables (with_lines (stored font) lines) head lines.hhea s.count ds (by_glyph glyphs ds s.count)))))
      (present (rows (tables (with_lines (stored font) lines) head lines.hhea s.count ds (by_glyph glyphs ds s.count))))
      ≡ false
      → HasInstanceFault font settings glyphs steps OverflowError
