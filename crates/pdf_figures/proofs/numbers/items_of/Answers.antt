use Rattle.std.proofs.Common.{ap, ◌∙◌}
use Rattle.pdf_figures.specs.View.{figure_seen}
use Rattle.pdf_figures.proofs.NumberSteps.{numbered_on}
use Rattle.pdf_figures.proofs.numbers.items_of.Goals as goal

pub loop-figure-preserved : goal.loop-figure-preserved
loop-figure-preserved c =
    numbered_on c.args.count c.args.figures.now c.loop-figure.figure-index _ c.args.glyphs.now.list.items c.loop-figure.glyphs.list.items c.item_of.new.glyphs.list.items c.loop-figure.items.items c.push.new.self.items c.in_ok-item_of.field-0
    c.loop-figure-test.true c.item_of.ensures.extends c.in_ok-push.ensures.items (c.in_ok-item_of.ensures.ok ∙ ap figure_seen c.figure-item.is) c.in_ok-item_of.ensures.below c.loop-figure.invariant
