use Rattle.std.proofs.Common.{◌≡◌, drop}
use Rattle.pdf_runs.specs.Items.{are_along}
use Rattle.pdf_runs.proofs.items.are_along.Given as goal

abbrev pub invariant-loop-item : goal.invariant-loop-item
invariant-loop-item l = are_along l.direction (drop l.item-index l.items) ≡ are_along l.direction l.items
