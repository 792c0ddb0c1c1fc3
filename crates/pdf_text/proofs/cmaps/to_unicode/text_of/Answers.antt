use Rattle.pdf_text.proofs.CmapsLaws.CmapSteps.{all_written}
use Rattle.pdf_text.proofs.cmaps.to_unicode.text_of.Goals as goal

pub returns-clause-ok : goal.returns-clause-ok
returns-clause-ok c =
    all_written c.args.mappings.now c.new-text.result.items c.write_front.new.text.items c.write_blocks.new.text.items c.extend_from_slice.new.self.items
    c.new-text.ensures.items c.in_ok-write_front.ensures.ok c.in_ok-write_blocks.ensures.ok c.in_ok-extend_from_slice.ensures.items
