-- The faults that stop a subset, each with its error.
use Rattle.std.specs.Prelude.{◌≡◌, ◌≤◌, ◌^◌, ℕ, List, codes, length, false, Some, Ok}
use Rattle.subsetter_base.specs.declared.error.Error.{Error}
use Rattle.subsetter_base.specs.declared.error.Error.TheVariants.{OverflowError}
use Rattle.subsetter_cff.specs.Write.Refusals.CffFault.{HasCffFault}
use Rattle.subsetter_sfnt.specs.declared.flavor.FontFlavor.{FontFlavor}
use Rattle.subsetter_sfnt.specs.declared.flavor.FontFlavor.TheVariants.{Cff}
use Rattle.subsetter_sfnt.specs.Read.{Font, flavor, table}
use Rattle.subsetter.specs.Glyf.Read.{Outlines, outlines}
use Rattle.subsetter.specs.Common.Post.Fault.{HasGlyphNameFault}
use Rattle.subsetter_sfnt.specs.Laying.Written.{Table, fits, start_of}
use Rattle.subsetter.specs.Common.Maxp.Read.{HasMaxProfileFault}
use Rattle.subsetter.specs.Common.Hmtx.Read.{HasMetricsFault}
use Rattle.subsetter.specs.Common.Name.Fault.{HasNameFault}
use Rattle.subsetter_sfnt.specs.Fault.{HasOpeningFault}
use Rattle.subsetter.specs.Glyf.Fault.{HasOutlineFault}
use Rattle.subsetter.specs.Laid.{AreMade}
use Rattle.subsetter.specs.Glyf.Plain.{kept_all}
use Rattle.subsetter.specs.Glyf.Reaching.Reach.{IsReachable, IsGlyphOrder}
use Rattle.subsetter.specs.Glyf.Written.{is_long, glyf_bytes}

-- a fault of a font, for a list of glyphs; the size limits are judged for an order of the new font's glyphs, and
-- charstrings are run within two limits
pub data HasFault (tokens depth : ℕ) (font : Font) (glyphs order : List ℕ) : Error → Type 0 where
  -- no known kind, a bad collection, a cut directory, or no outlines that are known
  in_opening : {e : Error} → HasOpeningFault font e → HasFault tokens depth font glyphs order e
  -- the CFF table, and the charstrings of the given glyphs
  in_cff : {e : Error} (bytes : List ℕ) → flavor font ≡ Some Cff → table font (codes "CFF ") ≡ Some bytes
      → HasCffFault bytes tokens depth glyphs e
      → HasFault tokens depth font glyphs order e
  -- loca, glyf and head (which a font with a CFF table may have too), and the outlines that are reached
  in_outlines : {e : Error} → HasOutlineFault font glyphs e → HasFault tokens depth font glyphs order e
  -- hmtx and hhea
  in_metrics : {e : Error} → HasMetricsFault (table font) (IsReachable font glyphs) e
      → HasFault tokens depth font glyphs order e
  -- maxp
  in_max_profile : {e : Error} → HasMaxProfileFault (table font) e → HasFault tokens depth font glyphs order e
  -- name
  in_names : {e : Error} → HasNameFault (table font) e → HasFault tokens depth font glyphs order e
  -- post
  in_glyph_names : {e : Error} → HasGlyphNameFault (table font) (IsReachable font glyphs) e
      → HasFault tokens depth font glyphs order e
  -- glyf has 2 ^ 32 bytes or more
  long_glyf : (source : Outlines) (bs : List (List ℕ)) → IsGlyphOrder font glyphs order → outlines font ≡ Some source
      → kept_all source order order ≡ Ok bs → 2 ^ 32 ≤ length (glyf_bytes (is_long bs) bs)
      → HasFault tokens depth font glyphs order OverflowError
  -- a table's place or length doesn't fit 32 bits
  large_file : (kind : FontFlavor) (ts : List Table) → IsGlyphOrder font glyphs order
      → AreMade tokens depth font order ts kind → fits (start_of ts) ts ≡ false
      → HasFault tokens depth font glyphs order OverflowError
