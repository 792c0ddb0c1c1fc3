use Rattle.std.specs.Prelude.{codes}
use Rattle.pdf_text.specs.View.{cid_row}
use Rattle.pdf_text.proofs.CmapsLaws.BlockSteps.{block_written}
use Rattle.pdf_text.proofs.cmaps.encoding.write_block.Goals as goal

pub returns-clause-ok : goal.returns-clause-ok
returns-clause-ok c =
    block_written cid_row (codes "cidchar") c.args.pairs.now c.args.text.now.items c.write_count.new.text.items c.extend_from_slice.new.self.items c.write_lines.new.text.items c.extend_from_slice-2.new.self.items
    c.in_ok-write_count.ensures.ok c.in_ok-extend_from_slice.ensures.items c.in_ok-write_lines.ensures.ok c.in_ok-extend_from_slice-2.ensures.items
