use Rattle.std.proofs.Common.{◌≡◌, false}
use Rattle.std.specs.Prelude.{◌==◌, slice_index}
use Rattle.subset_args.proofs.WordLaws.{number_of_parse}
use Rattle.subset_args.proofs.words.u8_of.Goals as goal

pub returns : goal.returns
returns c =
    let plain : (slice_index c.args.word.now 0 == 43) ≡ false = cc in
    let read = number_of_parse 8 c.args.word.now c.parse.result c.parse.ensures.value.0 plain in
    cc
