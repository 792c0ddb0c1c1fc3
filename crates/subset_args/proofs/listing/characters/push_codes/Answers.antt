use Rattle.std.proofs.Common.{◌+◌, ◌<◌, arith}
use Rattle.subset_args.proofs.ListingLaws.Scalars.{after_code}
use Rattle.subset_args.proofs.listing.characters.push_codes.Goals as goal

pub loop-code-preserved : goal.loop-code-preserved
loop-code-preserved c =
    let h : c.loop-code.code < c.args.codes.last + 1 = omega (arith, c.from-code-end.ensures, c.loop-code-test.true) in
    after_code c.loop-code.characters.items _ c.loop-code.code (c.args.codes.last + 1) _ h c.in_ok-push_code.ensures c.loop-code.invariant
