use Rattle.std.proofs.Common.{◌∙◌, ap}
use Rattle.subsetter_base.specs.Bytes.{be}
use Rattle.subsetter_cffdata.specs.Indexes.OffsetSizes.{size_of}
use Rattle.subsetter_cffdata.proofs.NumeralsLaws.Cards.{second_half}
use Rattle.subsetter_cffdata.proofs.indexes.index_view.VarOffsets.neighbours.Goals as goal

pub returns-clause-to : goal.returns-clause-to
returns-clause-to c =
    let offsets = c.args.self.now in
    c.two_numbers.ensures.second ∙ ap be (second_half offsets.data.now c.args.i c.to_usize-size.result (size_of offsets.offset_size) c.to_usize-size.ensures.value)
