use Rattle.std.specs.Prelude.{codes, decimal}
use Rattle.pdf_text.proofs.Written.{five_written}
use Rattle.pdf_sheet.proofs.lines.write_page_begin.Goals as goal

pub returns-clause-ok : goal.returns-clause-ok
returns-clause-ok c =
    five_written c.args.text.now.items (codes "<< /Type /Page /Parent 2 0 R /MediaBox [0 0 ") (decimal c.args.frame.width) (codes " ") (decimal c.args.frame.height) (codes "]")
    c.extend_from_slice.new.self.items c.write_count.new.text.items c.extend_from_slice-2.new.self.items c.write_count-2.new.text.items c.extend_from_slice-3.new.self.items
    c.in_ok-extend_from_slice.ensures.items c.in_ok-write_count.ensures.ok c.in_ok-extend_from_slice-2.ensures.items c.in_ok-write_count-2.ensures.ok c.in_ok-extend_from_slice-3.ensures.items
