use Rattle.pdf_text.proofs.CmapsLaws.NamedSteps.{lines_written}
use Rattle.pdf_text.specs.Cmaps.CmapName.{code_space}
use Rattle.pdf_text.proofs.cmaps.named.code_lines.Goals as goal

pub returns-clause-ok : goal.returns-clause-ok
unfolding code_space
returns-clause-ok c =
    lines_written c.args.pairs.now c.new-text.result.items c.extend_from_slice.new.self.items c.write_blocks.new.text.items c.extend_from_slice-2.new.self.items
    c.new-text.ensures.items c.in_ok-extend_from_slice.ensures.items c.in_ok-write_blocks.ensures.ok c.in_ok-extend_from_slice-2.ensures.items
