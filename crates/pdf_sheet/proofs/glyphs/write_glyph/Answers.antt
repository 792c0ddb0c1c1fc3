use Rattle.pdf_sheet.proofs.Steps.{glyph_written}
use Rattle.pdf_sheet.proofs.glyphs.write_glyph.Goals as goal

pub returns-clause-ok : goal.returns-clause-ok
returns-clause-ok c =
    glyph_written c.args.glyph c.args.text.now.items c.write_span.new.text.items c.write_code-2.new.text.items c.extend_from_slice.new.self.items
    c.if-glyph.false c.in_ok-write_span.ensures.ok c.in_ok-write_code.ensures.ok c.in_ok-extend_from_slice.ensures.items
