use Rattle.subsetter.proofs.GlyfLaws.BareOutlinesLaws.Counted.{long_by_count}
use Rattle.subsetter.proofs.loca.is_long.Goals as goal

pub returns : goal.returns
returns c = long_by_count c.args.outlines.now.items c.outlines_len.result c.outlines_len.ensures.exact c.outlines_len.ensures.past
