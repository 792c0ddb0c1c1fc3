use Rattle.pdf_text.proofs.CmapsLaws.CmapSteps.{codes_written}
use Rattle.pdf_text.proofs.cmaps.encoding.text_of.Goals as goal

pub returns-clause-ok : goal.returns-clause-ok
returns-clause-ok c =
    codes_written c.args.vertical c.args.pairs.now c.new-text.result.items c.write_front.new.text.items c.write_blocks.new.text.items c.extend_from_slice.new.self.items
    c.new-text.ensures.items c.in_ok-write_front.ensures.ok c.in_ok-write_blocks.ensures.ok c.in_ok-extend_from_slice.ensures.items
