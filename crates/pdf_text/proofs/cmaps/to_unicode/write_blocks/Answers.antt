use Rattle.std.proofs.Common.{arith}
use Rattle.std.specs.Prelude.{codes}
use Rattle.pdf_text.specs.View.{mapping_row}
use Rattle.pdf_text.proofs.CmapsLaws.BlockSteps.{block_cut}
use Rattle.pdf_text.proofs.cmaps.to_unicode.write_blocks.Goals as goal

pub loop-rest-preserved : goal.loop-rest-preserved
loop-rest-preserved c =
    block_cut mapping_row (codes "bfchar") c.loop-rest.text.items c.write_block.new.text.items c.block_size-n.result c.loop-rest.rest.now _ (omega arith)
    c.block_size-n.ensures c.loop-rest.invariant c.in_ok-write_block.ensures.ok
