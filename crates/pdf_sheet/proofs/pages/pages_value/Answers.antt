use Rattle.pdf_sheet.proofs.Steps.{pages_written}
use Rattle.pdf_sheet.proofs.pages.pages_value.Goals as goal

pub returns-clause-ok : goal.returns-clause-ok
returns-clause-ok c =
    pages_written c.args.frame c.args.count c.new-text.result.items c.write_page_tree.new.text.items c.write_size.new.text.items
    c.new-text.ensures.items c.in_ok-write_page_tree.ensures.ok c.in_ok-write_size.ensures.ok
