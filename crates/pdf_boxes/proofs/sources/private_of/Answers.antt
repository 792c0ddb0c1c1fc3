use Rattle.std.proofs.Common.{◌∙◌, sym}
use Rattle.subsetter_cff.specs.Read.Source.{cff_of}
use Rattle.pdf_boxes.proofs.Unbounded.{unnumbered}
use Rattle.pdf_boxes.proofs.sources.private_of.Goals as goal

pub returns-in-None : goal.returns-in-None
returns-in-None c = unnumbered (cff_of c.args.table.now) c.args.glyph (sym c.source_number.ensures ∙ c.in-None.is)
