use Rattle.std.proofs.Common.{◌∙◌, sym, arith}
use Rattle.subsetter_cff2.proofs.SelectionLaws.BlockSteps.{found_in_block, next_block}
use Rattle.subsetter_cff2.proofs.selection.search.find_by_blocks.Goals as goal

pub returns-then-is_some : goal.returns-then-is_some
returns-then-is_some c =
    found_in_block c.args.bytes.now c.args.list.is_wide c.args.list.at c.args.list.count c.args.glyph c.requires.there c.loop-block.from c.min-to.result c.find_in_block-found.result _ (omega arith) (omega arith)
    (sym c.is_some.ensures ∙ c.if-is_some.true) c.find_in_block-found.ensures c.loop-block.invariant.rest

pub loop-block-preserved : goal.loop-block-preserved
loop-block-preserved c = record {
  reached = omega arith;
  rest =
      next_block c.args.bytes.now c.args.list.is_wide c.args.list.at c.args.list.count c.args.glyph c.requires.there c.loop-block.from c.min-to.result c.find_in_block-found.result _ (omega arith) (omega arith)
      (sym c.is_some.ensures ∙ c.if-is_some.false) c.find_in_block-found.ensures c.loop-block.invariant.rest;
}
