use Rattle.pdf_sheet.specs.Units.{units_of}
use Rattle.pdf_sheet.proofs.Steps.{span_written}
use Rattle.pdf_sheet.proofs.glyphs.write_span.Goals as goal

pub returns-clause-ok : goal.returns-clause-ok
returns-clause-ok c =
    span_written (units_of c.args.characters.now) c.args.text.now.items c.extend_from_slice.new.self.items c.write_characters.new.text.items c.extend_from_slice-2.new.self.items
    c.in_ok-extend_from_slice.ensures.items c.in_ok-write_characters.ensures.ok c.in_ok-extend_from_slice-2.ensures.items
