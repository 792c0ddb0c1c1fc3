use Rattle.std.proofs.Common.{arith}
use Rattle.subsetter_sfnt.proofs.Laws.LayingLaws.Weights.{weighed_four}
use Rattle.subsetter_sfnt.proofs.laying.checksum.add_words.Goals as goal

pub loop-rest-preserved : goal.loop-rest-preserved
loop-rest-preserved c = omega (arith, weighed_four c.loop-rest.rest.now c.in-len4-up.len_at_least, c.from_be_bytes-sum.ensures, c.loop-rest.invariant)
