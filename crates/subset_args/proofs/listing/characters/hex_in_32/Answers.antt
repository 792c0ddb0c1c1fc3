use Rattle.std.proofs.Common.{◌≡◌, false}
use Rattle.std.specs.Prelude.{◌==◌, slice_index}
use Rattle.subset_args.proofs.ListingLaws.Hex.{hex_of_parse}
use Rattle.subset_args.proofs.listing.characters.hex_in_32.Goals as goal

pub returns : goal.returns
returns c =
    let plain : (slice_index c.args.word.now 0 == 43) ≡ false = cc in
    let read = hex_of_parse c.args.word.now c.from_str_radix.result c.from_str_radix.ensures.value plain in
    cc
