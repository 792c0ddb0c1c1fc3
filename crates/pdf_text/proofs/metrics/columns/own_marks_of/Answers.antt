use Rattle.std.proofs.Common.{arith}
use Rattle.pdf_text.specs.Metrics.Columns.{own_marks}
use Rattle.pdf_text.proofs.MetricsLaws.ColumnLaws.Steps.{own_next}
use Rattle.pdf_text.proofs.metrics.columns.own_marks_of.Goals as goal

pub loop-column-preserved : goal.loop-column-preserved
loop-column-preserved c = record {
  own = omega arith;
  so_far =
      own_next c.args.columns.now c.loop-column.own c.loop-column._column-index c.loop-column.marks.items c.push.new.self.items (own_marks 1 c.args.columns.now)
      (omega arith) c.in_ok-push.ensures.items c.loop-column.invariant.so_far;
}
