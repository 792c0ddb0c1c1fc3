use Rattle.subset_args.proofs.Parts.{after_place}
use Rattle.subset_args.proofs.listing.lists.glyphs_in.Goals as goal

pub loop-part-preserved : goal.loop-part-preserved
loop-part-preserved c = after_place c.args.parts.now c.loop-part.part-index _ _ _ _ c.loop-part-test.true c.in_ok-push_part.ensures.ok c.loop-part.invariant
