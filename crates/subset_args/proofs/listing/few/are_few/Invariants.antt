use Rattle.std.proofs.Common.{◌≡◌, length}
use Rattle.subset_args.specs.Listing.Few.{ends_by}
use Rattle.subset_args.specs.Listing.Lists.{fits}
use Rattle.subset_args.proofs.WordLaws.{texts}
use Rattle.subset_args.proofs.listing.few.are_few.Given as goal

abbrev pub invariant-loop-rest : goal.invariant-loop-rest
invariant-loop-rest l = fits (ends_by l.kind) l.left (texts l.rest) ≡ fits (ends_by l.kind) 2000000 (texts l.parts)

abbrev pub decreases-loop-rest : goal.decreases-loop-rest
decreases-loop-rest l = length l.rest
