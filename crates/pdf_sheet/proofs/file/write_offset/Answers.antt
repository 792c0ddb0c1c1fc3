use Rattle.pdf_sheet.proofs.Steps.{digits_written}
use Rattle.pdf_sheet.proofs.file.write_offset.Goals as goal

pub returns-clause-ok : goal.returns-clause-ok
returns-clause-ok c =
    digits_written c.args.offset c.args.text.now.items c.extend_from_slice.new.self.items c.extend_from_slice-2.new.self.items c.five_digits.result c.five_digits-2.result
    c.five_digits.ensures c.five_digits-2.ensures c.in_ok-extend_from_slice.ensures.items c.in_ok-extend_from_slice-2.ensures.items
