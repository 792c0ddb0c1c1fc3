use Rattle.std.proofs.Common.{◌++◌, length, ap, ◌∙◌}
use Rattle.pdf_sheet.specs.View.{texts_view}
use Rattle.pdf_sheet.specs.Pages.{catalog_value, pages_value, page_values, pages_of, page_count, font_number}
use Rattle.pdf_sheet.proofs.Steps.{front_pushed}
use Rattle.pdf_sheet.proofs.pages.front_values.Goals as goal

pub returns-clause-ok : goal.returns-clause-ok
returns-clause-ok c =
    let count = page_count c.args.layout (length c.args.glyphs.now) in
    front_pushed c.new-values.result.items c.push.new.self.items c.push-2.new.self.items c.push_all.new.values.items c.in_ok-from_slice.field-0 c.in_ok-pages_value.field-0
    catalog_value (pages_value c.args.frame count) (page_values c.args.frame (font_number count) 3 (pages_of c.args.layout c.args.glyphs.now))
    c.new-values.ensures.items c.in_ok-push.ensures.items c.in_ok-push-2.ensures.items c.in_ok-from_slice.ensures.items
    (c.in_ok-pages_value.ensures.ok ∙ ap (λ n. pages_value c.args.frame n) c.page_count-count.ensures.value)
    (c.in_ok-push_all.ensures.ok ∙ ap (λ n. texts_view c.push-2.new.self.items ++ page_values c.args.frame n 3 (pages_of c.args.layout c.args.glyphs.now)) c.requires)
