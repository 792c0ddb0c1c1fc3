use Rattle.std.proofs.Common.{◌+◌, ◌-◌, ◌*◌, arith}
use Rattle.pdf_sheet.proofs.Steps.{kid_more}
use Rattle.pdf_sheet.proofs.pages.write_kids.Goals as goal

pub loop-page-preserved : goal.loop-page-preserved
loop-page-preserved c =
    kid_more c.loop-page.text.items c.write_kid.new.text.items (3 + 2 * c.loop-page.page) (3 + 2 * (c.loop-page.page + 1)) (c.args.count - c.loop-page.page) (c.args.count - (c.loop-page.page + 1)) _
    (omega arith) (omega arith) c.in_ok-write_kid.ensures.ok c.loop-page.invariant
