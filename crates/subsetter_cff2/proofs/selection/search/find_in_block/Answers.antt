use Rattle.std.proofs.Common.{arith}
use Rattle.subsetter_cff2.proofs.SelectionLaws.BlockSteps.{all_after, all_before}
use Rattle.subsetter_cff2.proofs.selection.search.find_in_block.Goals as goal

pub returns-then-from-bounds : goal.returns-then-from-bounds
returns-then-from-bounds c =
    all_after c.args.bytes.now c.args.list.is_wide c.args.list.at c.args.from c.args.to c.args.glyph c.args.bounds.least c.args.bounds.greatest c.requires.order c.requires.there c.requires.within (omega arith)

pub returns-then-bounds-from : goal.returns-then-bounds-from
returns-then-bounds-from c =
    all_before c.args.bytes.now c.args.list.is_wide c.args.list.at c.args.from c.args.to c.args.glyph c.args.bounds.least c.args.bounds.greatest c.requires.order c.requires.there c.requires.within (omega arith)
