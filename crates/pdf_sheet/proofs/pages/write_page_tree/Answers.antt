use Rattle.std.specs.Prelude.{codes, decimal}
use Rattle.pdf_text.proofs.Written.{four_written}
use Rattle.pdf_sheet.specs.Pages.{kids}
use Rattle.pdf_sheet.proofs.pages.write_page_tree.Goals as goal

pub returns-clause-ok : goal.returns-clause-ok
returns-clause-ok c =
    four_written c.args.text.now.items (codes "<< /Type /Pages /Count ") (decimal c.args.count) (codes " /Kids [") (kids 3 c.args.count)
    c.extend_from_slice.new.self.items c.write_count.new.text.items c.extend_from_slice-2.new.self.items c.write_kids.new.text.items
    c.in_ok-extend_from_slice.ensures.items c.in_ok-write_count.ensures.ok c.in_ok-extend_from_slice-2.ensures.items c.in_ok-write_kids.ensures.ok
