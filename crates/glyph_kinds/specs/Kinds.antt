-- The pictures that a font has of a glyph.
use Rattle.std.specs.Prelude.{ℕ, ◌+◌, ◌*◌, nat_lt, not, Bool, if◌then◌else◌, List, [], ◌∷◌, map, filter, Option, Some}
use Rattle.std.specs.Prelude.{None, Result, Ok, codes}
use Rattle.std.specs.Option.{option_and_then, unwrap_or}
use Rattle.subsetter_base.specs.Bytes.{◌>>=◌}
use Rattle.subsetter_base.specs.declared.error.Error.{Error}
use Rattle.subsetter_sfnt.specs.Fields.Maxp.{num_glyphs}
use Rattle.subsetter_sfnt.specs.Plain.{opened}
use Rattle.subsetter_sfnt.specs.Read.{Font, table_in}
use Rattle.glyph_kinds.specs.Bitmaps.{has_image}
use Rattle.glyph_kinds.specs.Colour.{document_record, is_found, layers_record, paint_record}
use Rattle.glyph_kinds.specs.Graphics.{has_graphic}
use Rattle.glyph_kinds.specs.Outlines.{Outlines, has_outline, outlines_by}

-- the tables that pictures are found by, as far as the font has them
pub record Tables : Type 0 where
  pub colr : Option (List ℕ)
  pub svg : Option (List ℕ)
  pub cblc : Option (List ℕ)
  pub sbix : Option (List ℕ)
  -- numGlyphs
  pub glyphs : ℕ
  pub eblc : Option (List ℕ)
  pub outlines : Option Outlines

-- a table that says where images are, if the one with the images is there
abbrev pub beside : Option (List ℕ) → Option (List ℕ) → Option (List ℕ)
beside None table = None
beside (Some images) table = table

unfoldable pub tables_by : (List ℕ → Option (List ℕ)) → Tables
tables_by find = record {
  colr = find (codes "COLR");
  svg = find (codes "SVG ");
  cblc = beside (find (codes "CBDT")) (find (codes "CBLC"));
  sbix = find (codes "sbix");
  glyphs = unwrap_or (option_and_then num_glyphs (find (codes "maxp"))) 0;
  eblc = beside (find (codes "EBDT")) (find (codes "EBLC"));
  outlines = outlines_by (find (codes "glyf")) find;
}

-- whether a glyph has a picture of each kind, in the order in which a reader of OpenType prefers them
abbrev pub kinds : Tables → ℕ → List Bool
kinds t g =
    -- `COLR`: a paint, layers
    is_found paint_record t.colr g ∷ is_found layers_record t.colr g
    -- `SVG `: a document
    ∷ is_found document_record t.svg g
    -- `CBDT`: an image of format 17, 18, 19, or another
    ∷ has_image t.cblc (Some 17) g ∷ has_image t.cblc (Some 18) g ∷ has_image t.cblc (Some 19) g
    ∷ has_image t.cblc None g
    -- `sbix`: a graphic of the type `png `, `jpg `, `tiff`, `pdf `, `mask`, `dupe`, or another
    ∷ has_graphic t.sbix t.glyphs (Some 0x706E6720) g ∷ has_graphic t.sbix t.glyphs (Some 0x6A706720) g
    ∷ has_graphic t.sbix t.glyphs (Some 0x74696666) g
    ∷ has_graphic t.sbix t.glyphs (Some 0x70646620) g ∷ has_graphic t.sbix t.glyphs (Some 0x6D61736B) g
    ∷ has_graphic t.sbix t.glyphs (Some 0x64757065) g
    ∷ has_graphic t.sbix t.glyphs None g
    -- `EBDT`: an image
    ∷ has_image t.eblc None g
    -- an outline, or an empty one
    ∷ has_outline t.outlines g ∷ not (has_outline t.outlines g) ∷ []

-- a number with a bit for each, from the lowest on
abbrev pub bits : List Bool → ℕ
bits [] = 0
bits (b ∷ bs) = (if b then 1 else 0) + 2 * bits bs

unfoldable pub kind_bits : Tables → ℕ → ℕ
kind_bits t g = bits (kinds t g)

-- a glyph whose outline is empty, and of which the font has another picture: a PDF shows a blank
abbrev pub is_unseen : ℕ → Bool
is_unseen kinds = nat_lt 0x10000 kinds

abbrev pub unseen_by : Tables → List ℕ → List ℕ
unseen_by t glyphs = filter (λ g. is_unseen (kind_bits t g)) glyphs

-- the unseen ones of some glyphs of a font
unfoldable pub unseen_glyphs : Font → List ℕ → Result (List ℕ) Error
unseen_glyphs font glyphs = do
  records ← opened font
  Ok (unseen_by (tables_by (table_in font.bytes records)) glyphs)

-- the kinds of pictures of each glyph
unfoldable pub kinds_of : Font → List ℕ → Result (List ℕ) Error
kinds_of font glyphs = do
  records ← opened font
  Ok (map (kind_bits (tables_by (table_in font.bytes records))) glyphs)
