use Rattle.pdf_figures.proofs.Laying.{IsLaid}
use Rattle.pdf_figures.proofs.whole.whole_of.Given as goal

abbrev pub invariant-loop-item : goal.invariant-loop-item
invariant-loop-item l = IsLaid l.choice l.items l.item-index l.parts.items l.x l.y
