use Rattle.std.proofs.Common.{◌≡◌, ◌++◌, map, drop}
use Rattle.subset_pdf.specs.Cells.{is_said}
use Rattle.subset_pdf.proofs.cells.are_said.Given as goal

abbrev pub invariant-loop-one : goal.invariant-loop-one
invariant-loop-one l = l.said.items ++ map is_said (drop l.one-index l.shown) ≡ map is_said l.shown
