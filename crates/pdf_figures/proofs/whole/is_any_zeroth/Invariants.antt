use Rattle.std.proofs.Common.{◌≡◌, drop}
use Rattle.std.specs.List.{list_any}
use Rattle.pdf_figures.specs.Figures.{is_zeroth}
use Rattle.pdf_figures.proofs.whole.is_any_zeroth.Given as goal

abbrev pub invariant-loop-item : goal.invariant-loop-item
invariant-loop-item l = list_any is_zeroth (drop l.item-index l.items) ≡ list_any is_zeroth l.items
