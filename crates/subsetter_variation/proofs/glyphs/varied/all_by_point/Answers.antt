use Rattle.std.proofs.Common.{◌∙◌}
use Rattle.subsetter_variation.proofs.PackingLaws.ListedDeltas.{all_more}
use Rattle.subsetter_variation.proofs.glyphs.varied.all_by_point.Goals as goal

pub loop-k-preserved : goal.loop-k-preserved
loop-k-preserved c = c.in_ok-push.ensures.items ∙ all_more c.loop-k.list.items c.args.deltas.now c.loop-k.k _ c.loop-k.invariant c.own_delta.ensures
