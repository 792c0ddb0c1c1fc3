use Rattle.std.proofs.Common.{◌∙◌, arith}
use Rattle.pdf_text.proofs.Digests.{sixteen}
use Rattle.pdf_text.proofs.tag.digest.Goals as goal

pub loop-rest-preserved : goal.loop-rest-preserved
loop-rest-preserved c = record {
  most = omega arith;
  so_far = sixteen c.loop-rest.rest.now c.loop-rest.h c.first.result c.second.result c.third.result c.fourth.result c.in-len16-up.len_at_least c.loop-rest.invariant.most c.first.ensures.value c.second.ensures.value c.third.ensures.value c.fourth.ensures.value ∙ c.loop-rest.invariant.so_far;
}
