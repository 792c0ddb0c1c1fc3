use Rattle.std.proofs.Common.{◌++◌, length, ap, ◌∙◌}
use Rattle.pdf_sheet.specs.View.{texts_view}
use Rattle.pdf_sheet.specs.Lines.{line_pages, lines_root}
use Rattle.pdf_sheet.specs.Pages.{catalog_value, font_number}
use Rattle.pdf_sheet.proofs.Steps.{front_pushed}
use Rattle.pdf_sheet.proofs.lines.lines_front.Goals as goal

pub returns-clause-ok : goal.returns-clause-ok
returns-clause-ok c =
    let count = length c.args.lines.now in
    front_pushed c.new-values.result.items c.push.new.self.items c.push-2.new.self.items c.push_lines.new.values.items c.in_ok-from_slice.field-0 c.in_ok-lines_root.field-0
    catalog_value (lines_root count) (line_pages c.args.vertical (font_number count) 3 c.args.lines.now)
    c.new-values.ensures.items c.in_ok-push.ensures.items c.in_ok-push-2.ensures.items c.in_ok-from_slice.ensures.items
    c.in_ok-lines_root.ensures.ok
    (c.in_ok-push_lines.ensures.ok ∙ ap (λ n. texts_view c.push-2.new.self.items ++ line_pages c.args.vertical n 3 c.args.lines.now) c.requires)
