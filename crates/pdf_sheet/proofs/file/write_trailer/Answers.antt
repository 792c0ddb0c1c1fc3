use Rattle.pdf_sheet.proofs.Steps.{trailer_written}
use Rattle.pdf_sheet.proofs.file.write_trailer.Goals as goal

pub returns-clause-ok : goal.returns-clause-ok
returns-clause-ok c =
    trailer_written c.args.size c.args.start c.args.text.now.items c.extend_from_slice.new.self.items c.write_count.new.text.items c.extend_from_slice-2.new.self.items c.write_count-2.new.text.items c.extend_from_slice-3.new.self.items
    c.in_ok-extend_from_slice.ensures.items c.in_ok-write_count.ensures.ok c.in_ok-extend_from_slice-2.ensures.items c.in_ok-write_count-2.ensures.ok c.in_ok-extend_from_slice-3.ensures.items
