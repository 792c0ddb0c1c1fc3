use Rattle.std.proofs.Common.{◌≡◌, drop}
use Rattle.subsetter_cff.specs.Read.Source.{cff_of}
use Rattle.subsetter_cffdata.specs.Indexes.Owned.{views}
use Rattle.pdf_widths.specs.Tables.{charstrings_from}
use Rattle.pdf_widths.proofs.Loops.{following}
use Rattle.pdf_widths.proofs.tables.charstrings_in.Given as goal

abbrev pub invariant-loop-glyph : goal.invariant-loop-glyph
invariant-loop-glyph l = following (views l.charstrings.items) (charstrings_from (cff_of l.table) l.glyph (drop l.glyph l.advances)) ≡ charstrings_from (cff_of l.table) 0 l.advances
