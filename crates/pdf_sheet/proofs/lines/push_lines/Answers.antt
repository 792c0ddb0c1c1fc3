use Rattle.std.proofs.Common.{arith}
use Rattle.pdf_sheet.specs.View.{texts_view}
use Rattle.pdf_sheet.proofs.Steps.{line_more}
use Rattle.pdf_sheet.proofs.lines.push_lines.Goals as goal

pub loop-line-preserved : goal.loop-line-preserved
loop-line-preserved c =
    record {
      number = omega arith;
      values = line_more c.args.vertical c.args.font (texts_view c.loop-line.values.items) (texts_view c.push_line.new.values.items) c.loop-line.number c.args.lines.now c.loop-line.line-index _ _
          c.loop-line-test.true c.in_ok-push_line.ensures.ok c.loop-line.invariant.values;
    }
