use Rattle.subsetter.proofs.CommonLaws.PostLaws.Marks.{passed}
use Rattle.subsetter.proofs.common.post.marks.pass.Goals as goal

pub loop-preserved : goal.loop-preserved
loop-preserved c = record {
  names = passed c.args.bytes.now c.args.start c.loop.at c.past_name-at.result c.loop.counter c.loop.invariant.names c.past_name-at.ensures.names;
  within = c.past_name-at.ensures.within;
}
