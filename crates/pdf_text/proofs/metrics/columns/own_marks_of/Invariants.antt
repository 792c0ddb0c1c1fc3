use Rattle.std.proofs.Common.{◌≡◌, ◌+◌, ◌++◌, drop}
use Rattle.pdf_text.specs.Metrics.Columns.{own_marks}
use Rattle.pdf_text.proofs.metrics.columns.own_marks_of.Given as goal

abbrev pub invariant-loop-column : goal.invariant-loop-column
invariant-loop-column l = record {
  own : l.own ≡ l._column-index + 1;
  so_far : l.marks.items ++ own_marks l.own (drop l._column-index l.columns) ≡ own_marks 1 l.columns;
}
