use Rattle.std.proofs.Common.{◌≡◌, ◌++◌, length, drop}
use Rattle.subsetter_instance.specs.Tables.Requested.{outlines_by, starts_by}
use Rattle.subsetter_instance.specs.Tables.Written.{glyph_among}
use Rattle.subsetter_instance.proofs.tables.writing.all_outlines.Given as goal

abbrev pub invariant-loop-glyph : goal.invariant-loop-glyph
invariant-loop-glyph l = record {
  written : l.glyf.items ++ outlines_by (glyph_among l.mapper l.drawn) (drop l.glyph-index l.order) ≡ outlines_by (glyph_among l.mapper l.drawn) l.order;
  starts : l.starts.items ++ starts_by (glyph_among l.mapper l.drawn) (length l.glyf.items) (drop l.glyph-index l.order) ≡ starts_by (glyph_among l.mapper l.drawn) 0 l.order;
}
