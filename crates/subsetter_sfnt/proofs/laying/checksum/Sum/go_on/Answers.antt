use Rattle.std.proofs.Common.{◌+◌, ◌-◌, refl, arith}
use Rattle.subsetter_sfnt.proofs.Laws.LayingLaws.Weights.{summed_more}
use Rattle.subsetter_sfnt.proofs.laying.checksum.Sum.go_on.Goals as goal

pub returns : goal.returns
returns c =
    let done = c.args.self.done in
    summed_more c.args.table.now c.args.self.value done c.add_words.result 16384 (done + 16384 - done) c.requires (omega arith) refl (omega arith) c.add_words.ensures
