use Rattle.std.proofs.Common.{◌∙◌, arith, sym}
use Rattle.subsetter_cff.proofs.ReadLaws.FdArrayLaws.RangeBlockSteps.{found_in_block}
use Rattle.subsetter_cff.proofs.read.fd_array.ranges.find_by_blocks.Goals as goal

pub returns-then-is_some : goal.returns-then-is_some
returns-then-is_some c =
    found_in_block c.args.bytes.now c.args.glyph c.args.count c.loop-block.block c.find_in_block-found.result _ (omega arith) (sym c.is_some.ensures ∙ c.if-is_some.true)
    c.find_in_block-found.ensures c.loop-block.invariant
