use Rattle.std.proofs.Common.{◌≡◌, length}
use Rattle.subset_args.specs.Listing.Wrong.{first_wrong}
use Rattle.subset_args.proofs.WordLaws.{texts}
use Rattle.subset_args.proofs.listing.wrong.first_wrong.Given as goal

abbrev pub invariant-loop-rest : goal.invariant-loop-rest
invariant-loop-rest l = first_wrong l.listing (texts l.rest) ≡ first_wrong l.listing (texts l.parts)

abbrev pub decreases-loop-rest : goal.decreases-loop-rest
decreases-loop-rest l = length l.rest
