use Rattle.pdf_figures.proofs.NumberSteps.{AreNumbered}
use Rattle.pdf_figures.proofs.numbers.items_of.Given as goal

abbrev pub invariant-loop-figure : goal.invariant-loop-figure
invariant-loop-figure l = AreNumbered l.count l.figures l.figure-index l.fn.glyphs.list.items l.glyphs.list.items l.items.items
