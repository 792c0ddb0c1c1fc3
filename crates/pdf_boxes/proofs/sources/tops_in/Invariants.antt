use Rattle.std.proofs.Common.{◌≡◌, ◌++◌, drop}
use Rattle.subsetter_cff.specs.Read.Source.{cff_of}
use Rattle.pdf_boxes.specs.SourceBox.{tops_in}
use Rattle.pdf_boxes.proofs.sources.tops_in.Given as goal

abbrev pub invariant-loop-glyph : goal.invariant-loop-glyph
invariant-loop-glyph l = l.tops.items ++ tops_in (cff_of l.table) l.limits (drop l.glyph-index l.glyphs) ≡ tops_in (cff_of l.table) l.limits l.glyphs
