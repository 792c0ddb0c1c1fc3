use Rattle.std.proofs.Common.{◌≡◌, ◌++◌, drop}
use Rattle.subset_pdf.specs.Line.{items_of}
use Rattle.subset_pdf.proofs.line.items_of.Given as goal

abbrev pub invariant-loop-one : goal.invariant-loop-one
invariant-loop-one l = l.items.items ++ items_of l.vertical l.metrics (drop l.one-index l.shown) ≡ items_of l.vertical l.metrics l.shown
