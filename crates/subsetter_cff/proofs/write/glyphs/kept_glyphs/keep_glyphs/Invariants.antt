use Rattle.std.proofs.Common.{◌≡◌, List}
use Rattle.subsetter_cff.specs.Write.Glyphs.KeptView.{AreKept, with_kept}
use Rattle.subsetter_cff.specs.Write.Plain.{KeptGlyph, kept_glyphs}
use Rattle.subsetter_cff.specs.Read.Source.{cff_of}
use Rattle.subsetter_cff.proofs.write.glyphs.kept_glyphs.keep_glyphs.Given as goal

abbrev pub invariant-loop-glyph : goal.invariant-loop-glyph
invariant-loop-glyph l = record {
  before : List KeptGlyph;
  whole : with_kept before (kept_glyphs (cff_of l.source) l.limits.tokens l.limits.depth l.glyph-iterator) ≡ kept_glyphs (cff_of l.source) l.limits.tokens l.limits.depth l.mapper;
  shown : AreKept before l.kept;
}
