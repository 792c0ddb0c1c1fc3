use Rattle.subsetter_sfnt.proofs.Laws.LayingLaws.Weights.{summed_all}
use Rattle.subsetter_sfnt.proofs.laying.checksum.Sum.finish.Goals as goal

pub returns : goal.returns
returns c = summed_all c.args.table.now c.args.self.value c.args.self.done c.add_words.result c.requires c.add_words.ensures
