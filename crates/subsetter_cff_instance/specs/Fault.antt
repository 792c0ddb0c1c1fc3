-- The faults that stop a static font, each with its error.
use Rattle.std.specs.Prelude.{◌≡◌, ◌≤◌, ◌<◌, ℕ, List, length, codes, false, Contains, Option, None, IsSome, Ok, Some, ℤ}
use Rattle.std.specs.Prelude.{pos}
use Rattle.subsetter_base.specs.declared.tag.Tag.{Tag}
use Rattle.subsetter_base.specs.declared.error.Error.{Error}
use Rattle.subsetter_base.specs.declared.error.Error.TheVariants.{MalformedFont, Unimplemented, OverflowError}
use Rattle.subsetter_sfnt.specs.Fault.{HasOpeningFault}
use Rattle.subsetter_sfnt.specs.Read.{Font, stored}
use Rattle.subsetter_sfnt.specs.Laying.Written.{fits, start_of}
use Rattle.subsetter_sfnt.specs.declared.fields.hmtx.LongHorMetric.{LongHorMetric}
use Rattle.subsetter_instance.specs.Faults.CoordinatesFault.{HasCoordinatesFault, HasOtherVersion}
use Rattle.subsetter_instance.specs.Faults.GlyphFault.{HasHmtxFault}
use Rattle.subsetter_instance.specs.Faults.LinesFault.{HasLinesFault}
use Rattle.subsetter_instance.specs.Faults.RoundedFault.{HasAdvanceFault}
use Rattle.subsetter_instance.specs.Source.{normalized_coordinates}
use Rattle.subsetter_cff_at.specs.Fault.{HasFault}
use Rattle.subsetter_cff_at.specs.Plain.{made_table}
use Rattle.subsetter_cff_instance.specs.Plain.{Prepared, prepared, request_at}
use Rattle.subsetter_cff_instance.specs.Source.{Source, metric, metric_source, source_in}
use Rattle.subsetter_cff_instance.specs.Tables.{new_tables}

-- of opening a font, and of the kind of its outlines, which are to be in CFF2 alone
pub data HasOutlinesFault (font : Font) : Error → Type 0 where
  -- the directory, or there are no outlines
  in_opening : {e : Error} → stored font (codes "CFF2") ≡ None → HasOpeningFault font e → HasOutlinesFault font e
  -- there are outlines of another kind
  has_glyf : IsSome (stored font (codes "glyf")) → HasOutlinesFault font Unimplemented
  has_cff : IsSome (stored font (codes "CFF ")) → HasOutlinesFault font Unimplemented

-- of the tables that a look-up finds (OpenType, "head", "hhea", "hmtx" and "maxp")
pub data HasSourceFault (find : List ℕ → Option (List ℕ)) : Type 0 where
  no_maxp : find (codes "maxp") ≡ None → HasSourceFault find
  no_head : find (codes "head") ≡ None → HasSourceFault find
  no_hhea : find (codes "hhea") ≡ None → HasSourceFault find
  no_hmtx : find (codes "hmtx") ≡ None → HasSourceFault find
  -- maxp ends before the end of numGlyphs, head of yMax, hhea of numberOfHMetrics
  cut_maxp : (maxp : List ℕ) → find (codes "maxp") ≡ Some maxp → length maxp < 6 → HasSourceFault find
  cut_head : (head : List ℕ) → find (codes "head") ≡ Some head → length head < 44 → HasSourceFault find
  cut_hhea : (hhea : List ℕ) → find (codes "hhea") ≡ Some hhea → length hhea < 36 → HasSourceFault find

-- of one glyph of the tables at a location
pub data HasGlyphFault (s : Source) (at : List ℤ) (g : ℕ) : Error → Type 0 where
  -- maxp has fewer glyphs
  no_glyph : s.count ≤ g → HasGlyphFault s at g MalformedFont
  -- its metric: hhea and hmtx
  no_metric : HasHmtxFault (metric_source s) g → HasGlyphFault s at g MalformedFont
  -- its advance, as HVAR varies it; without HVAR it stays
  in_advance : {e : Error} (m : LongHorMetric) → metric s g ≡ Some m → IsSome s.hvar
      → HasAdvanceFault s.hvar at g m.advance_width (pos 0) e
      → HasGlyphFault s at g e

-- a fault of a font, for settings and glyphs, each of whose charstrings may take `tokens` tokens and go `depth` deep
pub data HasCffInstanceFault (font : Font) (settings : List (Tag × ℤ)) (glyphs : List ℕ) (tokens depth : ℕ)
    : Error → Type 0 where
  -- the directory, or the kind of the outlines
  in_outlines : {e : Error} → HasOutlinesFault font e → HasCffInstanceFault font settings glyphs tokens depth e
  -- fvar or avar
  in_coordinates : {e : Error} → HasCoordinatesFault (stored font) e
      → HasCffInstanceFault font settings glyphs tokens depth e
  -- HVAR or MVAR has another major version than 1
  other_hvar : HasOtherVersion (stored font) (codes "HVAR")
      → HasCffInstanceFault font settings glyphs tokens depth Unimplemented
  other_mvar : HasOtherVersion (stored font) (codes "MVAR")
      → HasCffInstanceFault font settings glyphs tokens depth Unimplemented
  -- the tables that metrics are read from
  in_source : HasSourceFault (stored font) → HasCffInstanceFault font settings glyphs tokens depth MalformedFont
  in_glyph : {e : Error} (at : List ℤ) (s : Source) (g : ℕ) → normalized_coordinates (stored font) settings ≡ Ok at
      → source_in (stored font) ≡ Some s → Contains glyphs g → HasGlyphFault s at g e
      → HasCffInstanceFault font settings glyphs tokens depth e
  -- a metric of hhea or post, as MVAR varies it
  in_lines : {e : Error} (at : List ℤ) → normalized_coordinates (stored font) settings ≡ Ok at
      → HasLinesFault (stored font) at e
      → HasCffInstanceFault font settings glyphs tokens depth e
  -- CFF2, a charstring that is asked for, or a size of the new table
  in_table : {e : Error} (cff2 : List ℕ) (p : Prepared) → stored font (codes "CFF2") ≡ Some cff2
      → prepared (stored font) settings glyphs ≡ Ok p → HasFault cff2 (request_at glyphs p) tokens depth e
      → HasCffInstanceFault font settings glyphs tokens depth e
  -- a table's place or length doesn't fit 32 bits
  large_file : (cff2 : List ℕ) (p : Prepared) (cff : List ℕ) → stored font (codes "CFF2") ≡ Some cff2
      → prepared (stored font) settings glyphs ≡ Ok p → made_table cff2 (request_at glyphs p) tokens depth ≡ Ok cff
      → fits (start_of (new_tables (stored font) p.source p.lines glyphs p.metrics cff))
      (new_tables (stored font) p.source p.lines glyphs p.metrics cff)
      ≡ false
      → HasCffInstanceFault font settings glyphs tokens depth OverflowError
