use Rattle.std.proofs.Common.{◌≡◌, ◌≤◌, ◌+◌, drop}
use Rattle.std.specs.Prelude.{min}
use Rattle.subset_pdf.specs.Line.{length_of}
use Rattle.subset_pdf.proofs.line.length_of.Given as goal

abbrev pub invariant-loop-item : goal.invariant-loop-item
invariant-loop-item l = record {
  small : l.length ≤ 398000;
  so_far : min (l.length + length_of (drop l.item-index l.items)) 398000 ≡ min (length_of l.items) 398000;
}
