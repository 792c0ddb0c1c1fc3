use Rattle.pdf_sheet.proofs.Steps.{offsets_pushed}
use Rattle.pdf_sheet.proofs.file.push_offsets.Goals as goal

pub loop-offset-preserved : goal.loop-offset-preserved
loop-offset-preserved c = offsets_pushed c.args.start c.args.more.now c.loop-offset.offset-index c.loop-offset.offsets.items c.push.new.self.items _ c.loop-offset-test.true c.in_ok-push.ensures.items c.loop-offset.invariant
