use Rattle.std.proofs.Common.{◌≡◌, List, drop}
use Rattle.subsetter_cff.specs.Read.Source.{cff_of}
use Rattle.subsetter_cff.specs.Write.Glyphs.KeptView.{AreKept, with_kept}
use Rattle.subsetter_cff.specs.Write.Plain.{KeptGlyph}
use Rattle.cff_repeats.specs.Repeats.{figures_of}
use Rattle.cff_repeats.proofs.keeping.keep_figures.Given as goal

abbrev pub invariant-loop-glyph : goal.invariant-loop-glyph
invariant-loop-glyph l = record {
  before : List KeptGlyph;
  whole : with_kept before (figures_of (cff_of l.table) (drop l.glyph-index l.figures)) ≡ figures_of (cff_of l.table) l.figures;
  shown : AreKept before l.kept;
}
