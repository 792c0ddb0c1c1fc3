use Rattle.std.proofs.Common.{◌≡◌, ◌++◌, map, drop}
use Rattle.pdf_figures.specs.Figures.{beside_unless}
use Rattle.pdf_figures.specs.View.{figures_seen}
use Rattle.pdf_figures.proofs.cluster.push_each.Given as goal

abbrev pub invariant-loop-item : goal.invariant-loop-item
invariant-loop-item l =
    figures_seen l.figures.items ++ map (beside_unless l.as_they_are l.choice) (drop l.item-index l.items) ≡ figures_seen l.fn.figures.items ++ map (beside_unless l.as_they_are l.choice) l.items
