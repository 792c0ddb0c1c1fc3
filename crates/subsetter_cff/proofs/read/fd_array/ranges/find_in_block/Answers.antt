use Rattle.std.proofs.Common.{arith}
use Rattle.subsetter_cff.proofs.ReadLaws.FdArrayLaws.RangeBlockSteps.{begins_all_after, ends_all_before}
use Rattle.subsetter_cff.proofs.read.fd_array.ranges.find_in_block.Goals as goal

pub returns-then-glyph-blocks : goal.returns-then-glyph-blocks
returns-then-glyph-blocks c = begins_all_after c.args.bytes.now c.args.count c.args.glyph c.args.block c.args.blocks.now.least c.args.blocks.now.greatest c.requires.bounds (omega arith)

pub returns-then-blocks-block : goal.returns-then-blocks-block
returns-then-blocks-block c = ends_all_before c.args.bytes.now c.args.count c.args.glyph c.args.block c.args.blocks.now.least c.args.blocks.now.greatest c.requires.bounds (omega arith)
