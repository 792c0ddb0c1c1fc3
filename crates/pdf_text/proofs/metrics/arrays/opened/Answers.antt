use Rattle.std.proofs.Common.{sym, ◌∙◌}
use Rattle.pdf_text.proofs.MetricsLaws.WidthLaws.Steps.{list_opened}
use Rattle.pdf_text.proofs.metrics.arrays.opened.Goals as goal

pub returns-clause-part : goal.returns-clause-part
returns-clause-part c =
    list_opened c.args.most c.args.first c.args.default c.listed-n.result c.args.width c.args.following.now c.args.widths.now
    c.requires.whole c.if-width-default.false (sym c.six_equal.ensures ∙ c.if-six_equal.false) c.listed-n.ensures.value
