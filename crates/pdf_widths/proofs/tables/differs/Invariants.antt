use Rattle.std.proofs.Common.{◌≡◌, drop}
use Rattle.subsetter_cff.specs.Read.Source.{cff_of}
use Rattle.pdf_widths.specs.Tables.{differs_from}
use Rattle.pdf_widths.proofs.tables.differs.Given as goal

abbrev pub invariant-loop-glyph : goal.invariant-loop-glyph
invariant-loop-glyph l = differs_from (cff_of l.table) l.glyph (drop l.glyph l.advances) ≡ differs_from (cff_of l.table) 0 l.advances
