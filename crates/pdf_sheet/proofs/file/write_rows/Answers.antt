use Rattle.pdf_sheet.proofs.Steps.{rows_more}
use Rattle.pdf_sheet.proofs.file.write_rows.Goals as goal

pub loop-offset-preserved : goal.loop-offset-preserved
loop-offset-preserved c = rows_more c.args.offsets.now c.loop-offset.offset-index c.loop-offset.text.items c.write_row.new.text.items _ c.loop-offset-test.true c.in_ok-write_row.ensures.ok c.loop-offset.invariant
