use Rattle.std.proofs.Common.{◌+◌, ap, ◌∙◌}
use Rattle.pdf_sheet.specs.Content.{line_frame}
use Rattle.pdf_sheet.specs.Lines.{line_content, line_page}
use Rattle.pdf_sheet.specs.Pages.{stream_value}
use Rattle.pdf_sheet.specs.declared.frame.Frame.{Frame}
use Rattle.pdf_sheet.proofs.Steps.{two_pushed}
use Rattle.pdf_sheet.proofs.lines.push_line.Goals as goal

pub returns-clause-ok : goal.returns-clause-ok
returns-clause-ok c =
    let frame = line_frame c.args.vertical c.args.line.advance in
    two_pushed c.args.values.now.items c.push.new.self.items c.push-2.new.self.items c.in_ok-line_page.field-0 c.in_ok-content_value.field-0
    (line_page frame c.args.font (c.args.number + 1)) (stream_value (line_content frame c.args.line.operators.now))
    c.in_ok-push.ensures.items c.in_ok-push-2.ensures.items
    (c.in_ok-line_page.ensures.ok ∙ ap (λ (fr : Frame). line_page fr c.args.font (c.args.number + 1)) c.line_frame-frame.ensures)
    (c.in_ok-content_value.ensures.ok ∙ ap (λ (fr : Frame). stream_value (line_content fr c.args.line.operators.now)) c.line_frame-frame.ensures)
