use Rattle.std.proofs.Common.{arith}
use Rattle.subsetter_sfnt.proofs.Laws.LayingLaws.Weights.{checksum-weighed}
use Rattle.subsetter_sfnt.proofs.laying.checksum.checksum.Goals as goal

pub returns : goal.returns
returns c = omega (arith, checksum-weighed c.args.bytes.now, c.add_words.ensures)
