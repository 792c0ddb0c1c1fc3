-- What the table that is made says, read afresh (OpenType, "CFF2"; Technical Note 5176 and 5177).
use Rattle.std.specs.Prelude.{◌≡◌, ℕ, ◌<◌, ◌≤◌, pos, List, [], length, map, slice_get, Option, Some, None, Ok}
use Rattle.subsetter_cffdata.specs.Numerals.Numbers.{Number, Integer}
use Rattle.subsetter_cffdata.specs.Numerals.Values.{value}
use Rattle.subsetter_cff.specs.Read.Entries.Lookup.{last_of}
use Rattle.subsetter_cff.specs.Read.Cff.{Cff, cff_parts, char_strings, char_string}
use Rattle.subsetter_cff.specs.Read.Charset.{cid_of}
use Rattle.subsetter_cff.specs.Read.GlyphTrace.{glyph_trace}
use Rattle.subsetter_cff.specs.Read.FdArray.Keying.{keying}
use Rattle.subsetter_cff.specs.Read.Entries.Matrices.{stated_matrices, unit_matrix}
use Rattle.subsetter_cff.specs.Read.Entries.Operators.{font_box_operator}
use Rattle.subsetter_cff.specs.Read.FdArray.Private.{private_entries}
use Rattle.subsetter_cff.specs.Write.Laying.ReadsAs.{adobe_identity}
use Rattle.subsetter_blend.specs.Laws.{IsDrawnAndWritten, cost}
use Rattle.subsetter_blend.specs.Writing.Written.{written_events}
use Rattle.subsetter_cff2.specs.Cff2.{Cff2, cff2_parts}
use Rattle.subsetter_cff2.specs.Made2.{new_matrix}
use Rattle.subsetter_cff2.specs.PrivateDicts.Private2 as source
use Rattle.subsetter_cff2.specs.PrivateDicts.Private2.{Private2, private_of}
use Rattle.subsetter_cff2.specs.PrivateDicts.PrivateAt.{Placed, private_at_location}
use Rattle.subsetter_cff2.specs.Variation.{Variation, optional_variation}
use Rattle.subsetter_boxes.specs.Joined.{font_box, least_box}
use Rattle.subsetter_cff_at.specs.Boxes.{entry_boxes}
use Rattle.subsetter_cff_at.specs.Plain.{setting, no_glyph, made_table}
use Rattle.subsetter_cff_at.specs.Request.{Request}
use Rattle.subsetter_cff_at.specs.Units.{top_matrix}

-- a requested glyph of the new table, where the font varies so
pub record DrawsGlyph (cff : Cff2) (v : Option Variation) (tokens depth glyph advance : ℕ) (out : Cff) : Type 0 where
  -- its private dict has the entries of the source's, with each blend resolved
  pub private : Private2
  pub private_is : private_of cff glyph ≡ Some private
  pub at_location : Placed
  pub at_location_is : private_at_location v private.dict ≡ Some at_location
  pub entries_are : private_entries out glyph ≡ Some at_location.entries
  -- its charstring
  pub charstring : List ℕ
  pub charstring_is : source.char_string cff glyph ≡ Some charstring
  pub bytes : List ℕ
  pub bytes_are : char_string out glyph ≡ Some bytes
  -- draws and hints what the source's does, each coordinate and edge rounded once, with the advance as its width
  pub drawn : IsDrawnAndWritten (setting cff v private.subroutines)
      tokens depth at_location.data_index (pos advance) charstring bytes
  -- and any run in the new table finds that, by as many tokens as it has
  pub trace_is : (n deep : ℕ) → 1 ≤ deep → cost (written_events drawn.written.whole) ≤ n
      → glyph_trace out n deep glyph ≡ Some (record { events = written_events drawn.written.whole; left = [] })

-- the new CFF table, of a CFF2 table at coordinates
pub record IsTableAt (bytes : List ℕ) (r : Request) (tokens depth : ℕ) (out : List ℕ) : Type 0 where
  pub source : Cff2
  pub source_is : cff2_parts bytes (length r.at) ≡ Some source
  pub variation : Option Variation
  pub variation_is : optional_variation source.store r.at ≡ Some variation
  pub copy : Cff
  pub copy_is : cff_parts out ≡ Some copy
  -- each glyph under its old number, drawn where it is requested and else empty
  pub charstrings : List (Option (List ℕ))
  pub charstrings_are : char_strings copy ≡ Some charstrings
  pub count : length charstrings ≡ length r.glyphs
  pub cids : (glyph : ℕ) → glyph < length r.glyphs → cid_of copy glyph ≡ Some glyph
  pub drawn : (glyph advance : ℕ) → slice_get r.glyphs glyph ≡ Some (Some advance)
      → DrawsGlyph source variation tokens depth glyph advance copy
  pub empty : (glyph : ℕ) → slice_get r.glyphs glyph ≡ Some None → char_string copy glyph ≡ Some no_glyph
  -- CID-keyed, without subroutines
  pub keyed : keying copy ≡ Some adobe_identity
  pub no_subroutines : copy.subroutines ≡ []
  -- FontMatrix, and FontBBox, the least box around its glyphs
  pub matrix : Option (List Number)
  pub matrix_is : top_matrix source r.units ≡ Some matrix
  pub matrices_are : (glyph : ℕ) → glyph < length r.glyphs
      → stated_matrices copy glyph ≡ Some (map value (new_matrix matrix), map value unit_matrix)
  pub box : last_of font_box_operator copy.top ≡ Some (map Integer (font_box (least_box (entry_boxes charstrings))))
  -- byte for byte the table of the plain way
  pub layout : made_table bytes r tokens depth ≡ Ok out

-- what a request has by its types
pub record IsRequest (r : Request) : Type 0 where
  pub few : length r.glyphs ≤ 65535

-- what is made is such a table
abbrev pub MadeIsTable : Type 0
MadeIsTable =
    (bytes : List ℕ) (r : Request) (tokens depth : ℕ) (out : List ℕ) → IsRequest r
    → made_table bytes r tokens depth ≡ Ok out
    → IsTableAt bytes r tokens depth out

-- limits never change a table: two that are made by different limits are the same bytes
abbrev pub LimitsAgree : Type 0
LimitsAgree =
    (bytes : List ℕ) (r : Request) (tokens depth other_tokens other_depth : ℕ) (out other : List ℕ)
    → made_table bytes r tokens depth ≡ Ok out → made_table bytes r other_tokens other_depth ≡ Ok other
    → out ≡ other
