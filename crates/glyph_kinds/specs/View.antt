-- What the code's values mean.
use Rattle.std.specs.Option.{option_copied, option_map}
use Rattle.subsetter_cffdata.specs.Indexes.IndexView.{items}
use Rattle.glyph_kinds.specs.Kinds.{Tables}
use Rattle.glyph_kinds.specs.Outlines.{Outlines, contours, charstrings}
use Rattle.glyph_kinds.specs.declared.outlines.FaceOutlines.{FaceOutlines}
use Rattle.glyph_kinds.specs.declared.outlines.FaceOutlines.TheVariants.{Contours, CharStrings}
use Rattle.glyph_kinds.specs.declared.call.FaceTables.{FaceTables}

abbrev pub outlines_view : FaceOutlines → Outlines
outlines_view (Contours long loca glyf) = contours long loca.now glyf.now
outlines_view (CharStrings index) = charstrings (items index)

abbrev pub tables_view : FaceTables → Tables
tables_view t = record {
  colr = option_copied t.colr;
  svg = option_copied t.svg;
  cblc = option_copied t.cblc;
  sbix = option_copied t.sbix;
  glyphs = t.glyphs;
  eblc = option_copied t.eblc;
  outlines = option_map outlines_view t.outlines;
}
