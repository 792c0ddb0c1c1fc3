use Rattle.std.proofs.Common.{◌≡◌, ◌++◌, None, drop, map}
use Rattle.pdf_runs.specs.Shaped.{all_labelled, are_small, seen}
use Rattle.pdf_runs.proofs.shaped.labelled.Given as goal

abbrev pub invariant-loop-at : goal.invariant-loop-at
invariant-loop-at l = record {
  so_far : map seen l.items.items ++ all_labelled l.direction l.text l.before (drop l.at l.places) (drop l.at l.shaped) ≡ all_labelled l.direction l.text None l.places l.shaped;
  small : are_small (drop l.at l.shaped) ≡ are_small l.shaped;
}
