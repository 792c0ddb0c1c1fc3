use Rattle.std.proofs.Common.{◌+◌}
use Rattle.pdf_sheet.specs.Content.{content}
use Rattle.pdf_sheet.specs.Pages.{page_value, stream_value}
use Rattle.pdf_sheet.proofs.Steps.{two_pushed}
use Rattle.pdf_sheet.proofs.pages.push_page.Goals as goal

pub returns-clause-ok : goal.returns-clause-ok
returns-clause-ok c =
    two_pushed c.args.values.now.items c.push.new.self.items c.push-2.new.self.items c.in_ok-page_value.field-0 c.in_ok-content_value.field-0
    (page_value c.args.font (c.args.number + 1)) (stream_value (content c.args.frame c.args.glyphs.now))
    c.in_ok-push.ensures.items c.in_ok-push-2.ensures.items c.in_ok-page_value.ensures.ok c.in_ok-content_value.ensures.ok
