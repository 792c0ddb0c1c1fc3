use Rattle.std.proofs.Common.{◌≡◌, ◌+◌, ◌++◌, drop}
use Rattle.pdf_text.specs.Metrics.Columns.{marks_from, marks}
use Rattle.pdf_text.proofs.metrics.columns.marks_of.Given as goal

abbrev pub invariant-loop-column : goal.invariant-loop-column
invariant-loop-column l = record {
  own : l.own ≡ l.column-index + 1;
  so_far : l.marks.items ++ marks_from l.default l.own l.before l.m (drop l.column-index l.columns) ≡ marks l.default l.columns;
}
