use Rattle.std.proofs.Common.{◌+◌, ◌-◌, ◌*◌, arith}
use Rattle.pdf_sheet.specs.View.{texts_view}
use Rattle.pdf_sheet.proofs.Steps.{page_cut}
use Rattle.pdf_sheet.proofs.pages.push_pages.Goals as goal

pub loop-page-preserved : goal.loop-page-preserved
loop-page-preserved c =
    page_cut c.args.frame c.args.font (texts_view c.loop-page.values.items) (texts_view c.push_page.new.values.items) (3 + 2 * c.loop-page.page) (3 + 2 * (c.loop-page.page + 1)) (c.args.count - c.loop-page.page) (c.args.count - (c.loop-page.page + 1)) c.page_size-size.result c.loop-page.rest.now _
    (omega arith) (omega arith) c.page_size-size.ensures c.in_ok-push_page.ensures.ok c.loop-page.invariant
